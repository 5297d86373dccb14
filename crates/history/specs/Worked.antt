-- Runs worked in full, each sum, figure and answer in numbers. Assumes nothing.
use Rattle.std.specs.Prelude.{◌≡◌, ℕ, List, [], ◌∷◌, ◌++◌, pos, negsuc, codes}
use Rattle.entry.specs.Entries.{Said, lists_product, lists_contract, announces, sets_spot, sets_mark, deposits, withdraws, cancels, orders, fills, opens, closes, ends_deadline}
use Rattle.entry.specs.declared.types.Kind.TheVariants.{Futures, Options}
use Rattle.entry.specs.declared.types.Right.TheVariants.{Neither, Call, Put}
use Rattle.entry.specs.declared.types.Side.TheVariants.{Buy, Sell}
use Rattle.entry.specs.declared.types.Effect.TheVariants.{Opening, Closing}
use Rattle.entry.specs.declared.types.Terms.{Terms}
use Rattle.margin_rule.specs.Rules.{outright}
use Rattle.books.specs.declared.report.Notice.TheVariants.{Quiet, HighRisk, CallStands, CallOverdue}
use Rattle.books.specs.declared.report.Due.TheVariants.{IndicatorLow, CallMissed}
use Rattle.books.specs.Books.{new}
use Rattle.books.specs.Figures.{Figures, figures}
use Rattle.books.specs.Tests.{answer, declined}
use Rattle.history.specs.Histories.{Event, cash_in_of, cash_out_of, fees, taxes, received, paid, measured, mark_of, falls}
use Rattle.history.specs.Law.{entered_into, history_into}

abbrev pub futures_terms : ℕ → ℕ → Terms
futures_terms limit ma = record { fee = 300; tax = 2; limit = limit; share = 20; ia = 83000; ib = 0; ma = ma; mb = 0 }

-- one futures contract, TXB at 7,600, and so much deposited
abbrev pub listed : ℕ → ℕ → List Said
listed limit deposit =
    lists_product (codes "TX") Futures 200 (futures_terms limit 64000) 0
    ∷ lists_contract (codes "TXB") (codes "TX") Neither 0 7000 8200 7600
    ∷ deposits deposit
    ∷ opens
    ∷ []

-- what a report shows after a list of entries
abbrev pub shown : List Said → Figures
shown es = figures outright (entered_into outright new es)

-- ---- an order, a part fill, a mark, a cancellation
-- three lots bought to open at 7,620, two of them filled at 7,610
abbrev pub filled_in_part : List Said
filled_in_part = listed 5000 400000 ++ (orders (codes "TXB") Buy Opening 3 7620 ∷ fills 1 2 7610 ∷ [])

-- the mark falls by 20 ticks
abbrev pub marked : List Said
marked = filled_in_part ++ (sets_mark (codes "TXB") 7580 ∷ [])

-- what still stands is cancelled
abbrev pub cancelled : List Said
cancelled = marked ++ (cancels 1 ∷ [])

abbrev pub history : List Event
history = history_into outright new [] cancelled

pub record PartFill : Type 0 where
  -- 395,340 of equity less 166,000 for the two lots and 87,000 for the one that stands: (7,620 − 7,600) × 200 + 83,000
  pub available_filled : (shown filled_in_part).available ≡ pos 142340
  -- 12,000 less: two lots lost 8,000, and the one that stands is now reserved at 40 ticks from the mark, 4,000 more
  pub available_marked : (shown marked).available ≡ pos 130340
  -- what the standing lot reserved at the present mark comes back, 91,000 and not 87,000
  pub available_cancelled : (shown cancelled).available ≡ pos 221340
  -- the sums of the law
  pub cash_in : cash_in_of history ≡ 400000
  pub cash_out : cash_out_of history ≡ 0
  pub fees_are : fees history ≡ 600
  pub taxes_are : taxes history ≡ 60
  pub falls_are : falls history ≡ 12000
  pub received_are : received history ≡ 0
  pub paid_are : paid history ≡ 0
  -- 2 × (7,580 − 7,610) × 200
  pub measured_is : measured (mark_of history) history ≡ negsuc 11999
  -- 400,000 − 600 − 60 − 12,000
  pub equity_is : (shown cancelled).equity ≡ pos 387340

-- ---- a call that stands, becomes overdue and is lifted
-- a lot sold at 7,600 costs 330 and is marked at 7,700: 83,070 − 20,000 is 930 below maintenance
abbrev pub below : List Said
below = listed 5000 83400 ++ (orders (codes "TXB") Sell Opening 1 7600 ∷ fills 1 1 7600 ∷ sets_mark (codes "TXB") 7700 ∷ [])

abbrev pub called : List Said
called = below ++ (closes ∷ [])

-- the after-hours session, and the next regular one until the deadline
abbrev pub next_day : List Said
next_day = called ++ (opens ∷ closes ∷ opens ∷ [])

abbrev pub overdue : List Said
overdue = next_day ++ (ends_deadline ∷ [])

-- what was missing to the initial need, less a dollar, or whole
abbrev pub kept_by : ℕ → List Said
kept_by amount = overdue ++ (deposits amount ∷ closes ∷ [])

-- with 1,600 more no call is set; then the maintenance figure is announced above what is left
abbrev pub announced : List Said
announced =
    listed 5000 85000
    ++ (orders (codes "TXB") Sell Opening 1 7600 ∷ fills 1 1 7600 ∷ sets_mark (codes "TXB") 7700 ∷ closes ∷ announces (codes "TX") (futures_terms 5000 70000) ∷ [])

pub record CallWorked : Type 0 where
  pub high_risk : (shown below).notice ≡ HighRisk
  -- 63,070 − 83,000 is available, so a dollar is 19,931 short
  pub withdrawal_declined : answer outright (entered_into outright new below) (withdraws 1) ≡ declined 10 19931
  pub stands : (shown called).notice ≡ CallStands
  -- the base is the mark: nothing has been gained since
  pub settled : (shown called).gain ≡ 0
  pub regular_close_declined : answer outright (entered_into outright new next_day) closes ≡ declined 11 0
  pub is_overdue : (shown overdue).notice ≡ CallOverdue
  pub is_due : (shown overdue).due ≡ CallMissed
  -- at a mark of 8,000 equity is 3,070, under a quarter of 83,000
  pub indicator_is_low : (shown (overdue ++ (sets_mark (codes "TXB") 8000 ∷ []))).due ≡ IndicatorLow
  -- an overdue call is kept below the initial need, and else lifted
  pub kept : (shown (kept_by 19929)).notice ≡ CallOverdue
  pub lifted : (shown (kept_by 19930)).notice ≡ Quiet
  -- high risk is told in a session only
  pub quiet_between_sessions : (shown announced).notice ≡ Quiet
  pub told_in_the_session : (shown (announced ++ (opens ∷ []))).notice ≡ HighRisk

-- ---- a surcharge, and gains lot by lot
-- three lots sold where one is free of surcharge: at 7,600, 7,500 and 7,700
abbrev pub three_sold : List Said
three_sold =
    listed 5 900000
    ++ (orders (codes "TXB") Sell Opening 3 7500 ∷ fills 1 1 7600 ∷ fills 1 1 7500 ∷ fills 1 1 7700 ∷ [])

-- settled at 7,600; after hours two lots are bought back at the mark, 7,590
abbrev pub two_closed : List Said
two_closed = three_sold ++ (closes ∷ opens ∷ sets_mark (codes "TXB") 7590 ∷ orders (codes "TXB") Buy Closing 2 7590 ∷ fills 2 2 7590 ∷ [])

pub record SurchargeWorked : Type 0 where
  -- the lot sold at 7,700 has won 100 ticks, the one sold at 7,500 lost as many: 20,000 and not 0
  pub gain_by_lot : (shown three_sold).gain ≡ 20000
  pub none_yet : (shown three_sold).surcharge ≡ 0
  -- two lots above 5 × 20 % at 20 % of 83,000 each
  pub at_the_close : (shown (three_sold ++ (closes ∷ []))).surcharge ≡ 33200
  -- it stands though one lot is left, which has won 10 ticks since the settlement
  pub stands_in_session : (shown two_closed).surcharge ≡ 33200
  pub gain_since_settlement : (shown two_closed).gain ≡ 2000
  pub maintenance_of_one : (shown two_closed).maintenance ≡ 64000
  -- and is worked out anew at the next regular close
  pub gone : (shown (two_closed ++ (closes ∷ opens ∷ closes ∷ []))).surcharge ≡ 0

-- ---- options sold, bought back, bought
-- a put 100 ticks out of the money at 120, and a call as far at 80
abbrev pub options_listed : List Said
options_listed =
    lists_product (codes "TXO") Options 50 (record { fee = 100; tax = 100; limit = 5000; share = 20; ia = 19000; ib = 10000; ma = 15000; mb = 8000 }) 8000
    ∷ lists_contract (codes "PUT") (codes "TXO") Put 7900 1 500 120
    ∷ lists_contract (codes "CALL") (codes "TXO") Call 8100 1 500 80
    ∷ deposits 100000
    ∷ opens
    ∷ []

abbrev pub puts_sold : List Said
puts_sold = options_listed ++ (orders (codes "PUT") Sell Opening 2 120 ∷ fills 1 2 120 ∷ [])

-- one is to be bought back at 110 at most, and is at 100
abbrev pub buying_back : List Said
buying_back = puts_sold ++ (orders (codes "PUT") Buy Closing 1 110 ∷ [])

abbrev pub bought_back : List Said
bought_back = buying_back ++ (fills 2 1 100 ∷ [])

abbrev pub call_bought : List Said
call_bought = bought_back ++ (orders (codes "CALL") Buy Opening 1 80 ∷ fills 3 1 80 ∷ [])

abbrev pub option_history : List Event
option_history = history_into outright new [] call_bought

pub record OptionsWorked : Type 0 where
  -- 120 × 50 and 19,000 − 100 × 50 for each short put
  pub reserved_for_puts : (shown (options_listed ++ (orders (codes "PUT") Sell Opening 2 120 ∷ []))).reserved ≡ 40000
  -- 100,000 and 12,000 of premium, less 200 and 12
  pub balance_sold : (shown puts_sold).balance ≡ pos 111788
  pub initial_sold : (shown puts_sold).initial ≡ 40000
  -- 120 × 50 and 15,000 − 5,000
  pub maintenance_sold : (shown puts_sold).maintenance ≡ 32000
  pub no_gain : (shown puts_sold).gain ≡ 0
  pub num_sold : (shown puts_sold).num ≡ pos 99788
  pub den_sold : (shown puts_sold).den ≡ pos 28000
  -- a closing purchase reserves its premium at the limit
  pub reserved_back : (shown buying_back).reserved ≡ 5500
  -- 5,000, 100 and 5 paid
  pub available_back : (shown bought_back).available ≡ pos 86683
  -- the long call is worth 4,000, the short put 6,000
  pub num_bought : (shown call_bought).num ≡ pos 100579
  pub den_bought : (shown call_bought).den ≡ pos 18000
  -- 150 ticks out of the money the put needs 2,500 less
  pub initial_after_spot : (shown (call_bought ++ (sets_spot (codes "TXO") 8050 ∷ []))).initial ≡ 17500
  pub received_are : received option_history ≡ 12000
  pub paid_are : paid option_history ≡ 9000
  pub fees_are : fees option_history ≡ 400
  pub taxes_are : taxes option_history ≡ 21
  -- the closing order reserved 5,500
  pub falls_are : falls option_history ≡ 5500
  pub measured_is : measured (mark_of option_history) option_history ≡ pos 0
  -- 100,000 − 400 − 21 + 12,000 − 9,000
  pub equity_is : (shown call_bought).equity ≡ pos 102579
