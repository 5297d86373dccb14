-- Every figure of an account. Those that value lots take the price of each contract and the lines that count. Assumes nothing.
use Rattle.std.specs.Prelude.{ℕ, ◌+◌, ◌-◌, ◌*◌, ◌/◌, max, Bool, cond, ◌&&◌, List, [], ◌∷◌, length, ℤ, pos, ◌+ℤ◌, ◌-ℤ◌, ◌*ℤ◌, neg_ℤ, int_lt}
use Rattle.entry.specs.declared.types.Side.{Side}
use Rattle.entry.specs.declared.types.Side.TheVariants.{Buy, Sell}
use Rattle.margin_rule.specs.Meanings.{Meaning, asked}
use Rattle.margin_rule.specs.Rules.{percent_of}
use Rattle.books.specs.declared.phase.Phase.{Phase}
use Rattle.books.specs.declared.phase.Call.{Call}
use Rattle.books.specs.declared.phase.Call.TheVariants.{NoCall, Standing, Overdue}
use Rattle.books.specs.declared.report.Notice.{Notice}
use Rattle.books.specs.declared.report.Notice.TheVariants.{Quiet, HighRisk, CallStands, CallOverdue}
use Rattle.books.specs.declared.report.Due.{Due}
use Rattle.books.specs.declared.report.Due.TheVariants.{NotDue, IndicatorLow, CallMissed}
use Rattle.books.specs.declared.rows.Lots.{Lots}
use Rattle.books.specs.declared.rows.Order.{Order}
use Rattle.books.specs.declared.rows.Position.{Position}
use Rattle.books.specs.Lots.{weigh, lots_of, one_if, sum_to}
use Rattle.books.specs.Market.{Market, Prices, Level, initially, to_maintain, by_kind, by_side, product_at, product_of, same_side, marks, futures_tick, option_tick, worse, better, margin_a, published_at}
use Rattle.books.specs.Books.{Books, by_effect, of_contract, of_product, in_session}

-- ---- equity
-- so many times the way from one price to another, the negative of it for a sale
abbrev pub result : Side → ℕ → ℕ → ℕ → ℤ
result side k now was = by_side side (pos k *ℤ (pos now -ℤ pos was)) (neg_ℤ (pos k *ℤ (pos now -ℤ pos was)))

-- the futures lots from their entry prices to the prices given
abbrev pub results : Market → Prices → List (Lots Position) → ℤ
results m price [] = pos 0
results m price (l ∷ ls) =
    result l.of.side (l.count * futures_tick m l.of.contract) (price l.of.contract) l.of.entry +ℤ results m price ls

abbrev pub equity : Books → ℤ
equity b = b.balance +ℤ results b.market (marks b.market) b.lines

-- ---- gain: what each futures lot has won since its base price, lot by lot never below 0
abbrev pub lot_gain : Market → Prices → Position → ℕ
lot_gain m price l = futures_tick m l.contract * better l.side (price l.contract) l.base

abbrev pub gain : Books → ℕ
gain b = weigh (lot_gain b.market (marks b.market)) b.lines

-- ---- needs
-- a futures product with the lots of all its months, at A
abbrev pub futures_need : Meaning → Market → Level → List (Lots Position) → ℕ → ℕ
futures_need rule m level ls i =
    by_kind (product_at m i).kind
    ((asked rule).need (lots_of (of_product m i Buy) ls) (lots_of (of_product m i Sell) ls) (margin_a level (product_at m i).terms))
    0

-- an option series with its short lots, at its published figure
abbrev pub series_need : Meaning → Market → Level → Prices → List (Lots Position) → ℕ → ℕ
series_need rule m level price ls c =
    by_kind (product_of m c).kind
    0
    ((asked rule).need 0 (lots_of (of_contract c Sell) ls) (published_at m level price c))

abbrev pub needs : Meaning → Market → Level → Prices → List (Lots Position) → ℕ
needs rule m level price ls = sum_to (length m.products) (futures_need rule m level ls) + sum_to (length m.contracts) (series_need rule m level price ls)

abbrev pub initial_need : Meaning → Books → ℕ
initial_need rule b = needs rule b.market initially (marks b.market) b.lines

abbrev pub maintenance_need : Meaning → Books → ℕ
maintenance_need rule b = needs rule b.market to_maintain (marks b.market) b.lines

-- ---- reservations, at the present mark and published initial figure
abbrev pub lot_reserve : Meaning → Market → Order → ℕ
lot_reserve rule m o =
    let lot = (asked rule).lot (published_at m initially (marks m) o.contract) in
    let tick = (product_of m o.contract).tick in
    by_kind (product_of m o.contract).kind
    (tick * worse o.side o.limit (marks m o.contract) + by_effect o.effect lot 0)
    (by_side o.side (o.limit * tick) (by_effect o.effect lot 0))

abbrev pub reserved : Meaning → Books → ℕ
reserved rule b = weigh (lot_reserve rule b.market) b.orders

-- ---- surcharge, as a regular close works it out
-- the lots of a product that count: the larger side of futures, the short lots of all series of options
abbrev pub counted_lots : Market → List (Lots Position) → ℕ → ℕ
counted_lots m ls i =
    by_kind (product_at m i).kind
    (max (lots_of (of_product m i Buy) ls) (lots_of (of_product m i Sell) ls))
    (lots_of (of_product m i Sell) ls)

-- those above the share of the position limit, rounded down, at 20 % of ia, rounded up
abbrev pub surcharge_for : ℕ → ℕ → ℕ → ℕ → ℕ
surcharge_for limit share ia lots = percent_of 20 ((lots - limit * share / 100) * ia)

abbrev pub product_surcharge : Market → List (Lots Position) → ℕ → ℕ
product_surcharge m ls i =
    let t = (product_at m i).terms in
    surcharge_for t.limit t.share t.ia (counted_lots m ls i)

abbrev pub surcharge_of : Market → List (Lots Position) → ℕ
surcharge_of m ls = sum_to (length m.products) (product_surcharge m ls)

-- ---- available
abbrev pub available : Meaning → Books → ℤ
available rule b = equity b -ℤ pos (gain b) -ℤ pos (initial_need rule b) -ℤ pos (reserved rule b) -ℤ pos b.surcharge

-- ---- the risk indicator, num to den
-- the prices and the lines that it reads
abbrev pub risk_prices : Books → Prices
risk_prices b = marks b.market

abbrev pub risk_lines : Books → List (Lots Position)
risk_lines b = b.lines

-- the option lots of a side at the prices given
abbrev pub option_value : Market → Side → Prices → List (Lots Position) → ℕ
option_value m side price = weigh (λ l. one_if (same_side l.side side) * (price l.contract * option_tick m l.contract))

abbrev pub num : Books → ℤ
num b =
    b.balance +ℤ results b.market (risk_prices b) (risk_lines b)
    +ℤ pos (option_value b.market Buy (risk_prices b) (risk_lines b)) -ℤ pos (option_value b.market Sell (risk_prices b) (risk_lines b))

-- at any prices
abbrev pub den_at : Meaning → Books → Prices → ℤ
den_at rule b price =
    pos (needs rule b.market initially price (risk_lines b))
    +ℤ pos (option_value b.market Buy price (risk_lines b)) -ℤ pos (option_value b.market Sell price (risk_lines b))
    +ℤ pos b.surcharge

abbrev pub den : Meaning → Books → ℤ
den rule b = den_at rule b (risk_prices b)

-- ---- notice and due
abbrev pub notice_of : Call → Phase → ℤ → ℕ → Notice
notice_of Overdue phase equity maintenance = CallOverdue
notice_of Standing phase equity maintenance = CallStands
notice_of NoCall phase equity maintenance = cond (in_session phase && int_lt equity (pos maintenance)) HighRisk Quiet

abbrev pub missed : Call → Due
missed Overdue = CallMissed
missed Standing = NotDue
missed NoCall = NotDue

-- an indicator below 25 %
abbrev pub indicator_low : ℤ → ℤ → Bool
indicator_low num den = int_lt (pos 0) den && int_lt (pos 100 *ℤ num) (pos 25 *ℤ den)

abbrev pub due_of : Call → Phase → ℤ → ℤ → Due
due_of call phase num den = cond (in_session phase && indicator_low num den) IndicatorLow (missed call)

-- ---- what a report shows
pub record Figures : Type 0 where
  pub balance : ℤ
  pub equity : ℤ
  pub gain : ℕ
  pub initial : ℕ
  pub maintenance : ℕ
  pub reserved : ℕ
  pub surcharge : ℕ
  pub available : ℤ
  pub num : ℤ
  pub den : ℤ
  pub notice : Notice
  pub due : Due

abbrev pub figures : Meaning → Books → Figures
figures rule b = record {
  balance = b.balance;
  equity = equity b;
  gain = gain b;
  initial = initial_need rule b;
  maintenance = maintenance_need rule b;
  reserved = reserved rule b;
  surcharge = b.surcharge;
  available = available rule b;
  num = num b;
  den = den rule b;
  notice = notice_of b.call b.phase (equity b) (maintenance_need rule b);
  due = due_of b.call b.phase (num b) (den rule b);
}
