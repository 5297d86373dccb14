-- The products and contracts of an account, read by their places or found by their names; prices, ticks and the figure that the
-- exchange publishes for a lot. Assumes nothing.
use Rattle.std.specs.Prelude.{ℕ, ◌+◌, ◌-◌, ◌*◌, ◌/◌, max, Bool, true, false, List, [], Some, None, Option, slice_index_or, slice_set}
use Rattle.std.specs.List.{position}
use Rattle.entry.specs.declared.types.Kind.{Kind}
use Rattle.entry.specs.declared.types.Kind.TheVariants.{Futures, Options}
use Rattle.entry.specs.declared.types.Right.{Right}
use Rattle.entry.specs.declared.types.Right.TheVariants.{Neither, Call, Put}
use Rattle.entry.specs.declared.types.Side.{Side}
use Rattle.entry.specs.declared.types.Side.TheVariants.{Buy, Sell}
use Rattle.entry.specs.declared.types.Terms.{Terms}
use Rattle.books.specs.declared.rows.Product.{Product}
use Rattle.books.specs.declared.rows.Contract.{Contract}
use Rattle.books.specs.Names.{name_of, is_same_name}

pub record Market : Type 0 where
  pub products : List Product
  pub contracts : List Contract

-- one thing for futures, another for options
abbrev pub by_kind : {A : Type 0} → Kind → A → A → A
by_kind Futures f o = f
by_kind Options f o = o

-- one thing for purchases, another for sales
abbrev pub by_side : {A : Type 0} → Side → A → A → A
by_side Buy b s = b
by_side Sell b s = s

abbrev pub other_side : Side → Side
other_side s = by_side s Sell Buy

abbrev pub same_side : Side → Side → Bool
same_side s t = by_side s (by_side t true false) (by_side t false true)

-- ---- rows by place; a place past the end has a row of nothing
abbrev pub no_terms : Terms
no_terms = record { fee = 0; tax = 0; limit = 0; share = 0; ia = 0; ib = 0; ma = 0; mb = 0 }

abbrev pub no_product : Product
no_product = record { name = name_of []; kind = Futures; tick = 0; terms = no_terms; spot = 0 }

abbrev pub no_contract : Contract
no_contract = record { name = name_of []; product = 0; right = Neither; strike = 0; floor = 0; ceiling = 0; mark = 0 }

abbrev pub product_at : Market → ℕ → Product
product_at m i = slice_index_or m.products i no_product

abbrev pub contract_at : Market → ℕ → Contract
contract_at m c = slice_index_or m.contracts c no_contract

-- the product of a contract
abbrev pub product_of : Market → ℕ → Product
product_of m c = product_at m (contract_at m c).product

-- ---- places by name: the first row that bears it
abbrev pub product_named : Market → List ℕ → Option ℕ
product_named m name = position (λ p. is_same_name name p.name) m.products

abbrev pub contract_named : Market → List ℕ → Option ℕ
contract_named m name = position (λ c. is_same_name name c.name) m.contracts

-- the row at a place that was found, or the row of nothing
abbrev pub row_at : {A : Type 0} → A → List A → Option ℕ → A
row_at none xs None = none
row_at none xs (Some i) = slice_index_or xs i none

-- a row changed where it was found
abbrev pub changed_at : {A : Type 0} → A → List A → Option ℕ → (A → A) → List A
changed_at none xs None f = xs
changed_at none xs (Some i) f = slice_set xs i (f (slice_index_or xs i none))

-- ---- prices
-- a price for each contract, by its place
abbrev pub Prices : Type 0
Prices = ℕ → ℕ

abbrev pub marks : Market → Prices
marks m c = (contract_at m c).mark

-- what a tick of a futures lot is worth, and of an option lot; 0 for the other kind
abbrev pub futures_tick : Market → ℕ → ℕ
futures_tick m c = by_kind (product_of m c).kind (product_of m c).tick 0

abbrev pub option_tick : Market → ℕ → ℕ
option_tick m c = by_kind (product_of m c).kind 0 (product_of m c).tick

-- the ticks by which a price is worse than another for whoever buys or sells at it, never below 0
abbrev pub worse : Side → ℕ → ℕ → ℕ
worse side price than = by_side side (price - than) (than - price)

-- the ticks won from one price to another, never below 0
abbrev pub better : Side → ℕ → ℕ → ℕ
better side now was = by_side side (now - was) (was - now)

-- the tax of one lot, fraction dropped
abbrev pub tax_of : ℕ → ℕ → ℕ → ℕ
tax_of price tick tax = price * tick * tax / 100000

-- ---- published figures
-- initial or maintenance
pub data Level : Type 0 where
  initially : Level
  to_maintain : Level

abbrev pub margin_a : Level → Terms → ℕ
margin_a initially t = t.ia
margin_a to_maintain t = t.ma

abbrev pub margin_b : Level → Terms → ℕ
margin_b initially t = t.ib
margin_b to_maintain t = t.mb

-- the ticks by which an option is out of the money
abbrev pub out_of_money : Right → ℕ → ℕ → ℕ
out_of_money Neither strike spot = 0
out_of_money Call strike spot = strike - spot
out_of_money Put strike spot = spot - strike

-- the published figure of one lot: A of a future; of a short option what it is worth and the larger of A less the dollars by which
-- it is out of the money, and B
abbrev pub published : Level → Product → Contract → ℕ → ℕ
published level p c price =
    by_kind p.kind
    (margin_a level p.terms)
    (price * p.tick + max (margin_a level p.terms - p.tick * out_of_money c.right c.strike p.spot) (margin_b level p.terms))

abbrev pub published_at : Market → Level → Prices → ℕ → ℕ
published_at m level price c = published level (product_of m c) (contract_at m c) (price c)
