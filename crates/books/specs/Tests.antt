-- The tests of each entry, in the order of the decline table: the first that fails is the answer. Assumes nothing.
use Rattle.std.specs.Prelude.{ℕ, ◌+◌, ◌*◌, Bool, true, false, cond, not, ◌&&◌, List, [], ◌∷◌, length, ℤ, pos, ◌+ℤ◌, ◌-ℤ◌, is_some, Some, None, Ok, Err, Option, Result, ◌==◌, int_le, nat_le, nat_lt, unsigned_abs}
use Rattle.std.specs.List.{position}
use Rattle.entry.specs.Entries.{Said, lists_product, lists_contract, announces, sets_band, sets_spot, sets_mark, deposits, withdraws, cancels, orders, fills, opens, closes, ends_deadline}
use Rattle.entry.specs.Fields.{is_name}
use Rattle.entry.specs.declared.types.Kind.{Kind}
use Rattle.entry.specs.declared.types.Right.{Right}
use Rattle.entry.specs.declared.types.Right.TheVariants.{Neither, Call, Put}
use Rattle.entry.specs.declared.types.Side.{Side}
use Rattle.entry.specs.declared.types.Effect.{Effect}
use Rattle.entry.specs.declared.types.Effect.TheVariants.{Opening, Closing}
use Rattle.entry.specs.declared.types.Terms.{Terms}
use Rattle.margin_rule.specs.Meanings.{Meaning}
use Rattle.books.specs.declared.phase.Phase.{Phase}
use Rattle.books.specs.declared.phase.Phase.TheVariants.{Before, Regular, Settled, AfterHours}
use Rattle.books.specs.declared.phase.Call.{Call as MarginCall}
use Rattle.books.specs.declared.phase.Call.TheVariants.{NoCall, Standing, Overdue}
use Rattle.books.specs.declared.refusal.Refusal.{Refusal}
use Rattle.books.specs.declared.refusal.Refusal.TheVariants.{WrongPhase, Unknown, InUse, OutOfRange, OutsideBand, TooManyLots, NoRoom, Short, CallStands}
use Rattle.books.specs.declared.rows.Contract.{Contract}
use Rattle.books.specs.declared.rows.Lots.{Lots}
use Rattle.books.specs.declared.rows.Order.{Order}
use Rattle.books.specs.declared.rows.Product.{Product}
use Rattle.books.specs.Limits.{most_products, most_contracts, most_orders, most_lines, most_given, most_lots_of_one, highest_tick, highest_fee, highest_tax, highest_position_limit, highest_share, highest_margin, highest_strike, highest_worth, highest_amount, highest_balance, within}
use Rattle.books.specs.Numbers.{refusal_number, refusal_short}
use Rattle.books.specs.Lots.{lots_of}
use Rattle.books.specs.Market.{Market, by_kind, other_side, product_at, contract_at, product_named, contract_named, row_at, no_product, no_contract, worse}
use Rattle.books.specs.Books.{Books, ordered, no_order, numbered, of_contract, closes_on, opens_lots, in_session}
use Rattle.books.specs.Figures.{lot_reserve, available}

-- ---- answers
-- taken, with the order's number or 0; or declined by its number, with the missing dollars
pub data Answer : Type 0 where
  taken : ℕ → Answer
  declined : (number short : ℕ) → Answer

abbrev pub refused_by : Refusal → Answer
refused_by r = declined (refusal_number r) (refusal_short r)

-- what a call of the code answers
abbrev pub told : Result ℕ Refusal → Answer
told (Ok n) = taken n
told (Err r) = refused_by r

pub record Test : Type 0 where
  pub passes : Bool
  pub refusal : Refusal

abbrev pub test : Bool → Refusal → Test
test passes refusal = record { passes = passes; refusal = refusal }

abbrev pub down : List Test → ℕ → Answer
down [] n = taken n
down (t ∷ ts) n = cond t.passes (down ts n) (refused_by t.refusal)

-- so many dollars out of available
abbrev pub out_of : ℤ → ℕ → Test
out_of available n = test (int_le (pos n) available) (Short (unsigned_abs (pos n -ℤ available)))

-- ---- ranges
abbrev pub margins_fit : ℕ → ℕ → ℕ → Bool
margins_fit least maintenance initial = nat_le least maintenance && (nat_le maintenance initial && nat_le initial highest_margin)

abbrev pub terms_fit : Kind → Terms → Bool
terms_fit kind t =
    nat_le t.fee highest_fee
    && (nat_le t.tax highest_tax
    && (within 1 highest_position_limit t.limit
    && (within 1 highest_share t.share
    && (margins_fit 1 t.ma t.ia
    && (margins_fit 0 t.mb t.ib
    && by_kind kind (t.ib == 0 && t.mb == 0) true)))))

abbrev pub spot_fits : Kind → ℕ → Bool
spot_fits kind spot = by_kind kind (spot == 0) (within 1 highest_strike spot)

abbrev pub right_fits : Kind → Right → Bool
right_fits kind Neither = by_kind kind true false
right_fits kind Call = by_kind kind false true
right_fits kind Put = by_kind kind false true

abbrev pub strike_fits : Kind → ℕ → Bool
strike_fits = spot_fits

-- the mark inside the band, and the band inside what a lot may be worth
abbrev pub band_fits : ℕ → ℕ → ℕ → ℕ → Bool
band_fits tick floor mark ceiling = nat_le 1 floor && (nat_le floor mark && (nat_le mark ceiling && nat_le (ceiling * tick) highest_worth))

abbrev pub in_band : Contract → ℕ → Bool
in_band c price = within c.floor c.ceiling price

-- ---- what an entry names
abbrev pub product_by : Market → List ℕ → Product
product_by m name = row_at no_product m.products (product_named m name)

abbrev pub contract_by : Market → List ℕ → Contract
contract_by m name = row_at no_contract m.contracts (contract_named m name)

abbrev pub order_place : Books → ℕ → Option ℕ
order_place b n = position (λ o. numbered n o.of) b.orders

abbrev pub order_by : Books → ℕ → Lots Order
order_by b n = row_at no_order b.orders (order_place b n)

-- the place of a contract that was found
abbrev pub place_of : Option ℕ → ℕ
place_of None = 0
place_of (Some i) = i

-- ---- lots
-- so many lots more may be closed on a side of a contract: no more than its lots that are not held for closing orders
abbrev pub closes_within : Books → ℕ → Side → ℕ → Bool
closes_within b c side lots = nat_le (lots_of (closes_on c side) b.orders + lots) (lots_of (of_contract c side) b.lines)

-- so many lots more may be opened: lines of lots, standing opening lots and these
abbrev pub opens_within : Books → ℕ → Bool
opens_within b lots = nat_le (length b.lines + lots_of opens_lots b.orders + lots) most_lines

-- ---- calls
abbrev pub call_stands : MarginCall → Bool
call_stands NoCall = false
call_stands Standing = true
call_stands Overdue = false

abbrev pub closes_session : Phase → MarginCall → Bool
closes_session Before call = true
closes_session Regular call = not (call_stands call)
closes_session Settled call = true
closes_session AfterHours call = true

abbrev pub is_regular : Phase → Bool
is_regular Before = false
is_regular Regular = true
is_regular Settled = false
is_regular AfterHours = false

-- ---- the table
-- the last tests of an order: closing lots are held, opening ones come out of available
abbrev pub order_tests : Meaning → Books → ℕ → Side → Effect → ℕ → ℕ → List Test
order_tests rule b c side Opening lots price =
    test (nat_lt (length b.orders) most_orders) NoRoom
    ∷ test (nat_lt b.given most_given) NoRoom
    ∷ test (opens_within b lots) NoRoom
    ∷ out_of (available rule b) (lots * lot_reserve rule b.market (ordered (b.given + 1) c side Opening price))
    ∷ []
order_tests rule b c side Closing lots price =
    test (closes_within b c (other_side side) lots) TooManyLots
    ∷ test (nat_lt (length b.orders) most_orders) NoRoom
    ∷ test (nat_lt b.given most_given) NoRoom
    ∷ []

abbrev pub tests : Meaning → Books → Said → List Test
tests rule b (lists_product name kind tick terms spot) =
    test (not (in_session b.phase)) WrongPhase
    ∷ test (not (is_some (product_named b.market name))) InUse
    ∷ test (nat_lt (length b.market.products) most_products) InUse
    ∷ test (is_name name) OutOfRange
    ∷ test (within 1 highest_tick tick) OutOfRange
    ∷ test (terms_fit kind terms) OutOfRange
    ∷ test (spot_fits kind spot) OutOfRange
    ∷ []
tests rule b (lists_contract name product right strike floor ceiling mark) =
    let p = product_by b.market product in
    test (not (in_session b.phase)) WrongPhase
    ∷ test (is_some (product_named b.market product)) Unknown
    ∷ test (not (is_some (contract_named b.market name))) InUse
    ∷ test (nat_lt (length b.market.contracts) most_contracts) InUse
    ∷ test (is_name name) OutOfRange
    ∷ test (right_fits p.kind right) OutOfRange
    ∷ test (strike_fits p.kind strike) OutOfRange
    ∷ test (band_fits p.tick floor mark ceiling) OutOfRange
    ∷ []
tests rule b (announces name terms) =
    test (not (in_session b.phase)) WrongPhase
    ∷ test (is_some (product_named b.market name)) Unknown
    ∷ test (terms_fit (product_by b.market name).kind terms) OutOfRange
    ∷ []
tests rule b (sets_band contract floor ceiling) =
    let c = contract_by b.market contract in
    test (not (in_session b.phase)) WrongPhase
    ∷ test (is_some (contract_named b.market contract)) Unknown
    ∷ test (band_fits (product_at b.market c.product).tick floor c.mark ceiling) OutOfRange
    ∷ []
tests rule b (sets_spot product price) =
    test (in_session b.phase) WrongPhase
    ∷ test (is_some (product_named b.market product)) Unknown
    ∷ test (spot_fits (product_by b.market product).kind price) OutOfRange
    ∷ []
tests rule b (sets_mark contract price) =
    test (in_session b.phase) WrongPhase
    ∷ test (is_some (contract_named b.market contract)) Unknown
    ∷ test (in_band (contract_by b.market contract) price) OutsideBand
    ∷ []
tests rule b (deposits amount) =
    test (within 1 highest_amount amount) OutOfRange
    ∷ test (int_le (b.balance +ℤ pos amount) (pos highest_balance)) OutOfRange
    ∷ []
tests rule b (withdraws amount) =
    test (within 1 highest_amount amount) OutOfRange
    ∷ out_of (available rule b) amount
    ∷ []
tests rule b (orders contract side effect lots price) =
    test (in_session b.phase) WrongPhase
    ∷ test (is_some (contract_named b.market contract)) Unknown
    ∷ test (within 1 most_lots_of_one lots) OutOfRange
    ∷ test (in_band (contract_by b.market contract) price) OutsideBand
    ∷ order_tests rule b (place_of (contract_named b.market contract)) side effect lots price
tests rule b (fills order lots price) =
    let o = order_by b order in
    test (in_session b.phase) WrongPhase
    ∷ test (is_some (order_place b order)) Unknown
    ∷ test (within 1 most_lots_of_one lots) OutOfRange
    ∷ test (in_band (contract_at b.market o.of.contract) price) OutsideBand
    ∷ test (worse o.of.side price o.of.limit == 0) OutsideBand
    ∷ test (nat_le lots o.count) TooManyLots
    ∷ []
tests rule b (cancels order) =
    test (in_session b.phase) WrongPhase
    ∷ test (is_some (order_place b order)) Unknown
    ∷ []
tests rule b opens =
    test (not (in_session b.phase)) WrongPhase
    ∷ []
tests rule b closes =
    test (in_session b.phase) WrongPhase
    ∷ test (closes_session b.phase b.call) CallStands
    ∷ []
tests rule b ends_deadline =
    test (is_regular b.phase) WrongPhase
    ∷ test (call_stands b.call) Unknown
    ∷ []

-- the number that a taken entry is answered with: an order's own, or 0
abbrev pub number : Books → Said → ℕ
number b (lists_product name kind tick terms spot) = 0
number b (lists_contract name product right strike floor ceiling mark) = 0
number b (announces name terms) = 0
number b (sets_band contract floor ceiling) = 0
number b (sets_spot product price) = 0
number b (sets_mark contract price) = 0
number b (deposits amount) = 0
number b (withdraws amount) = 0
number b (orders contract side effect lots price) = b.given + 1
number b (fills order lots price) = 0
number b (cancels order) = 0
number b opens = 0
number b closes = 0
number b ends_deadline = 0

abbrev pub answer : Meaning → Books → Said → Answer
answer rule b e = down (tests rule b e) (number b e)
