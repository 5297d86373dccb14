-- Entries with one fault or several, and the decline of each: the first test that fails in the order of the table. Assumes nothing.
use Rattle.std.specs.Prelude.{◌≡◌, List, [], ◌∷◌, ◌++◌, codes}
use Rattle.entry.specs.Entries.{Said, lists_product, lists_contract, announces, sets_band, sets_spot, sets_mark, deposits, withdraws, cancels, orders, fills, opens, closes, ends_deadline}
use Rattle.entry.specs.declared.types.Kind.TheVariants.{Futures, Options}
use Rattle.entry.specs.declared.types.Right.TheVariants.{Neither, Call}
use Rattle.entry.specs.declared.types.Side.TheVariants.{Buy, Sell}
use Rattle.entry.specs.declared.types.Effect.TheVariants.{Opening, Closing}
use Rattle.margin_rule.specs.Rules.{outright}
use Rattle.books.specs.Books.{new}
use Rattle.books.specs.Tests.{Answer, answer, taken, declined}
use Rattle.history.specs.Law.{entered_into}
use Rattle.history.specs.Worked.{futures_terms, listed}

-- in a session: a lot sold, and an order of two lots to be bought at 7,610
abbrev pub session : List Said
session = listed 5000 300000 ++ (orders (codes "TXB") Sell Opening 1 7600 ∷ fills 1 1 7600 ∷ orders (codes "TXB") Buy Opening 2 7610 ∷ [])

-- settled after it
abbrev pub idle : List Said
idle = session ++ (closes ∷ [])

-- a line of lots and 500 standing opening lots
abbrev pub five_hundred : List Said
five_hundred =
    listed 5000 100000000
    ++ (orders (codes "TXB") Sell Opening 1 7600
    ∷ fills 1 1 7600
    ∷ orders (codes "TXB") Buy Opening 100 7600
    ∷ orders (codes "TXB") Buy Opening 100 7600
    ∷ orders (codes "TXB") Buy Opening 100 7600
    ∷ orders (codes "TXB") Buy Opening 100 7600
    ∷ orders (codes "TXB") Buy Opening 100 7600
    ∷ [])

abbrev pub answered : List Said → Said → Answer
answered es e = answer outright (entered_into outright new es) e

pub record DeclinesWorked : Type 0 where
  pub product_in_session : answered session (lists_product (codes "TX") Futures 0 (futures_terms 0 64000) 1) ≡ declined 3 0
  pub product_name_used : answered idle (lists_product (codes "TX") Futures 0 (futures_terms 0 64000) 1) ≡ declined 5 0
  pub product_no_name : answered idle (lists_product (codes "tx") Futures 200 (futures_terms 5000 64000) 0) ≡ declined 6 0
  pub product_no_tick : answered idle (lists_product (codes "NO") Futures 0 (futures_terms 5000 64000) 0) ≡ declined 6 0
  pub product_terms : answered idle (lists_product (codes "NO") Futures 200 (futures_terms 5000 83001) 0) ≡ declined 6 0
  pub futures_spot : answered idle (lists_product (codes "NO") Futures 200 (futures_terms 5000 64000) 1) ≡ declined 6 0
  pub options_without_spot : answered idle (lists_product (codes "NO") Options 200 (futures_terms 5000 64000) 0) ≡ declined 6 0
  pub contract_in_session : answered session (lists_contract (codes "TXB") (codes "NO") Neither 0 0 0 0) ≡ declined 3 0
  pub contract_of_unknown_product : answered idle (lists_contract (codes "TXB") (codes "NO") Neither 0 0 0 0) ≡ declined 4 0
  pub contract_name_used : answered idle (lists_contract (codes "TXB") (codes "TX") Call 0 0 0 0) ≡ declined 5 0
  pub contract_right : answered idle (lists_contract (codes "NO") (codes "TX") Call 0 7000 8200 7600) ≡ declined 6 0
  pub contract_strike : answered idle (lists_contract (codes "NO") (codes "TX") Neither 1 7000 8200 7600) ≡ declined 6 0
  pub contract_mark_outside : answered idle (lists_contract (codes "NO") (codes "TX") Neither 0 7000 8200 8201) ≡ declined 6 0
  pub contract_too_dear : answered idle (lists_contract (codes "NO") (codes "TX") Neither 0 7000 250001 7600) ≡ declined 6 0
  pub announcement_in_session : answered session (announces (codes "NO") (futures_terms 5000 83001)) ≡ declined 3 0
  pub announcement_of_unknown : answered idle (announces (codes "NO") (futures_terms 5000 83001)) ≡ declined 4 0
  pub maintenance_above_initial : answered idle (announces (codes "TX") (futures_terms 5000 83001)) ≡ declined 6 0
  pub band_in_session : answered session (sets_band (codes "NO") 0 0) ≡ declined 3 0
  pub band_of_unknown : answered idle (sets_band (codes "NO") 0 0) ≡ declined 4 0
  pub band_off_the_mark : answered idle (sets_band (codes "TXB") 7000 7599) ≡ declined 6 0
  pub spot_between_sessions : answered idle (sets_spot (codes "NO") 1) ≡ declined 3 0
  pub spot_of_unknown : answered session (sets_spot (codes "NO") 1) ≡ declined 4 0
  pub spot_of_futures : answered session (sets_spot (codes "TX") 1) ≡ declined 6 0
  pub mark_between_sessions : answered idle (sets_mark (codes "NO") 0) ≡ declined 3 0
  pub mark_of_unknown : answered session (sets_mark (codes "NO") 0) ≡ declined 4 0
  pub mark_above_the_band : answered session (sets_mark (codes "TXB") 8201) ≡ declined 7 0
  pub mark_of_nothing : answered session (sets_mark (codes "TXB") 0) ≡ declined 7 0
  pub nothing_deposited : answered idle (deposits 0) ≡ declined 6 0
  pub too_much_deposited : answered idle (deposits 1000000000001) ≡ declined 6 0
  pub nothing_withdrawn : answered idle (withdraws 0) ≡ declined 6 0
  pub order_between_sessions : answered idle (orders (codes "NO") Buy Opening 0 0) ≡ declined 3 0
  pub order_of_unknown : answered session (orders (codes "NO") Buy Opening 0 0) ≡ declined 4 0
  pub order_of_no_lots : answered session (orders (codes "TXB") Buy Closing 0 0) ≡ declined 6 0
  pub order_of_101_lots : answered session (orders (codes "TXB") Buy Closing 101 0) ≡ declined 6 0
  pub order_outside_the_band : answered session (orders (codes "TXB") Buy Closing 2 0) ≡ declined 7 0
  pub closing_more_than_held : answered session (orders (codes "TXB") Buy Closing 2 7600) ≡ declined 8 0
  pub closing_the_wrong_side : answered session (orders (codes "TXB") Sell Closing 1 7600) ≡ declined 8 0
  pub past_the_lines : answered five_hundred (orders (codes "TXB") Buy Opening 12 7600) ≡ declined 9 0
  -- 100 × 83,000 less 46,670 of available
  pub opening_too_dear : answered session (orders (codes "TXB") Buy Opening 100 7600) ≡ declined 10 8253330
  pub fill_between_sessions : answered idle (fills 9 0 0) ≡ declined 3 0
  pub fill_of_unknown : answered session (fills 9 0 0) ≡ declined 4 0
  pub fill_of_no_lots : answered session (fills 2 0 0) ≡ declined 6 0
  pub fill_outside_the_band : answered session (fills 2 2 0) ≡ declined 7 0
  pub fill_worse_than_its_limit : answered session (fills 2 3 7611) ≡ declined 7 0
  pub fill_of_too_many : answered session (fills 2 3 7610) ≡ declined 8 0
  pub cancel_between_sessions : answered idle (cancels 9) ≡ declined 3 0
  pub cancel_of_unknown : answered session (cancels 9) ≡ declined 4 0
  pub open_in_session : answered session opens ≡ declined 3 0
  pub close_between_sessions : answered idle closes ≡ declined 3 0
  pub deadline_between_sessions : answered idle ends_deadline ≡ declined 3 0
  pub deadline_without_a_call : answered session ends_deadline ≡ declined 4 0
  -- one lot fewer is taken
  pub to_the_last_line : answered five_hundred (orders (codes "TXB") Buy Opening 11 7600) ≡ taken 7
