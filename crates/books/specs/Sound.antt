-- What every run of an account keeps: sizes, ranges, places, and bounds on money under which 64-bit arithmetic is exact; and how far
-- the figures go for it. Assumes nothing.
use Rattle.std.specs.Prelude.{◌≡◌, ℕ, ◌+◌, ◌-◌, ◌*◌, ◌/◌, ◌<◌, ◌≤◌, false, List, length, get_or, ℤ, pos, ◌+ℤ◌, ◌≤ℤ◌, slice_index_or}
use Rattle.entry.specs.declared.types.Side.{Side}
use Rattle.entry.specs.declared.types.Side.TheVariants.{Buy}
use Rattle.margin_rule.specs.Bounds.{highest_lot}
use Rattle.books.specs.declared.rows.Contract.{Contract}
use Rattle.books.specs.declared.rows.Lots.{Lots}
use Rattle.books.specs.declared.rows.Order.{Order}
use Rattle.books.specs.declared.rows.Position.{Position}
use Rattle.books.specs.declared.rows.Product.{Product}
use Rattle.books.specs.Limits.{most_products, most_contracts, most_orders, most_lines, most_given, most_lots_of_one, highest_tick, highest_fee, highest_tax, highest_position_limit, highest_share, highest_margin, highest_strike, highest_worth, highest_balance}
use Rattle.books.specs.Lots.{lots_of, all_lots}
use Rattle.books.specs.Market.{Market, Prices, product_at, contract_at, product_of, no_product, no_contract}
use Rattle.books.specs.Books.{Books, no_order, of_contract, closes_on, opens_lots, in_session}
use Rattle.books.specs.Figures.{Figures}

-- what holds of each row of a table
abbrev pub Each : {A : Type 0} → A → (A → Type 0) → List A → Type 0
Each none P xs = (i : ℕ) → i < length xs → P (slice_index_or xs i none)

abbrev pub Between : ℕ → ℕ → ℕ → Type 0
Between low high x = (low ≤ x) × (x ≤ high)

abbrev pub no_line : Lots Position
no_line = record { of = record { contract = 0; side = Buy; entry = 0; base = 0 }; count = 0 }

-- ---- the market
abbrev pub TickFits : Product → Type 0
TickFits p = Between 1 highest_tick p.tick

abbrev pub ChargesFit : Product → Type 0
ChargesFit p = (p.terms.fee ≤ highest_fee) × (p.terms.tax ≤ highest_tax)

abbrev pub LimitFits : Product → Type 0
LimitFits p = Between 1 highest_position_limit p.terms.limit × Between 1 highest_share p.terms.share

abbrev pub MarginsFit : Product → Type 0
MarginsFit p = (1 ≤ p.terms.ma) × (p.terms.ma ≤ p.terms.ia) × (p.terms.ia ≤ highest_margin) × (p.terms.mb ≤ p.terms.ib) × (p.terms.ib ≤ highest_margin)

abbrev pub SpotFits : Product → Type 0
SpotFits p = p.spot ≤ highest_strike

-- the mark inside the band, and the band inside what a lot may be worth
abbrev pub Banded : ℕ → Contract → Type 0
Banded tick c = (1 ≤ c.floor) × (c.floor ≤ c.mark) × (c.mark ≤ c.ceiling) × (c.ceiling * tick ≤ highest_worth)

abbrev pub ContractFits : Market → Contract → Type 0
ContractFits m c =
    (c.product < length m.products)
    × (c.strike ≤ highest_strike)
    × Banded (product_at m c.product).tick c

-- ---- orders and lines
-- a lot at a price is worth no more than a lot may be
abbrev pub Affordable : Market → ℕ → ℕ → Type 0
Affordable m contract price = price * (product_of m contract).tick ≤ highest_worth

abbrev pub OrderFits : Market → ℕ → Lots Order → Type 0
OrderFits m given o =
    (o.of.contract < length m.contracts)
    × Between 1 most_lots_of_one o.count
    × Between 1 given o.of.number
    × Affordable m o.of.contract o.of.limit

abbrev pub LineFits : Market → Lots Position → Type 0
LineFits m l =
    (l.of.contract < length m.contracts)
    × Between 1 most_lots_of_one l.count
    × Affordable m l.of.contract l.of.entry
    × Affordable m l.of.contract l.of.base

-- no number twice
abbrev pub NumbersRise : List (Lots Order) → Type 0
NumbersRise os = (i j : ℕ) → i < j → j < length os → (get_or os i no_order).of.number < (get_or os j no_order).of.number

-- closing orders find their lots
abbrev pub Held : List (Lots Order) → List (Lots Position) → Type 0
Held os ls = (c : ℕ) (side : Side) → lots_of (closes_on c side) os ≤ lots_of (of_contract c side) ls

-- opening orders find room for their lines
abbrev pub Roomy : List (Lots Order) → List (Lots Position) → Type 0
Roomy os ls = length ls + lots_of opens_lots os ≤ most_lines

-- ---- money
-- a lot moves at most its worth, a fee and a tax
abbrev pub most_moved : ℕ
most_moved = highest_worth + highest_fee + highest_worth * highest_tax / 100000

-- the results of all lots that an account may hold
abbrev pub most_results : ℕ
most_results = most_lines * most_lots_of_one * highest_worth

-- the lots that have been filled are at most 100 for each order given less those that still stand; twice these less the lots held
-- grows by every lot that is filled, and would by every lot that is closed without an order
abbrev pub lots_moved : ℕ → List (Lots Order) → List (Lots Position) → ℕ
lots_moved given os ls = 2 * (most_lots_of_one * given - all_lots os) - all_lots ls

abbrev pub LotsCounted : ℕ → List (Lots Order) → List (Lots Position) → Type 0
LotsCounted given os ls = all_lots os + all_lots ls ≤ most_lots_of_one * given

abbrev pub BalanceFits : ℤ → ℕ → Type 0
BalanceFits balance moved =
    (balance ≤ℤ pos (highest_balance + highest_worth * moved))
    × (pos 0 ≤ℤ (balance +ℤ pos (most_results + most_moved * moved)))

-- 20 % of the highest margin for all the lots that an account may hold, for each product
abbrev pub highest_surcharge : ℕ
highest_surcharge = most_products * (most_lines * most_lots_of_one * (highest_margin * 20 / 100))

-- ---- all of it; each part is of a form that an invariant of a type can have
pub record Sound (b : Books) : Type 0 where
  pub products_few : length b.market.products ≤ most_products
  pub contracts_few : length b.market.contracts ≤ most_contracts
  pub ticks : Each no_product TickFits b.market.products
  pub charges : Each no_product ChargesFit b.market.products
  pub limits : Each no_product LimitFits b.market.products
  pub margins : Each no_product MarginsFit b.market.products
  pub spots : Each no_product SpotFits b.market.products
  pub contracts : Each no_contract (ContractFits b.market) b.market.contracts
  pub orders_few : length b.orders ≤ most_orders
  pub given_few : b.given ≤ most_given
  pub orders : Each no_order (OrderFits b.market b.given) b.orders
  pub numbers : NumbersRise b.orders
  -- no order stands between sessions
  pub idle : in_session b.phase ≡ false → length b.orders ≡ 0
  pub lines : Each no_line (LineFits b.market) b.lines
  pub held : Held b.orders b.lines
  pub room : Roomy b.orders b.lines
  pub counted : LotsCounted b.given b.orders b.lines
  pub balance : BalanceFits b.balance (lots_moved b.given b.orders b.lines)
  pub surcharge : b.surcharge ≤ highest_surcharge

-- ---- how far the figures go, under a rule that keeps its laws
-- prices inside the bands
abbrev pub InBands : Market → Prices → Type 0
InBands m price = (c : ℕ) → c < length m.contracts → Between (contract_at m c).floor (contract_at m c).ceiling (price c)

abbrev pub most_needed : ℕ
most_needed = most_lines * most_lots_of_one * highest_lot

abbrev pub most_reserved : ℕ
most_reserved = most_orders * most_lots_of_one * (highest_worth + highest_lot)

-- every sum of money, either way
abbrev pub most_money : ℕ
most_money = 1000000000000000

abbrev pub Modest : ℤ → Type 0
Modest x = (x ≤ℤ pos most_money) × (pos 0 ≤ℤ (x +ℤ pos most_money))

pub record FiguresFit (f : Figures) : Type 0 where
  pub balance : Modest f.balance
  pub equity : Modest f.equity
  pub gain : f.gain ≤ most_results
  pub initial : f.initial ≤ most_needed
  pub maintenance : f.maintenance ≤ most_needed
  pub reserved : f.reserved ≤ most_reserved
  pub surcharge : f.surcharge ≤ highest_surcharge
  pub available : Modest f.available
  pub num : Modest f.num
  pub den : Modest f.den
