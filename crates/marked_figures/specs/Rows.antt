-- Rows that the figures are worked on: a future and its month, and calls on an index. Assumes nothing.
use Rattle.std.specs.Prelude.{[], ◌∷◌, ℕ, codes}
use Rattle.entry.specs.declared.types.Kind.TheVariants.{Futures, Options}
use Rattle.entry.specs.declared.types.Right.TheVariants.{Neither, Call}
use Rattle.entry.specs.declared.types.Side.TheVariants.{Buy}
use Rattle.entry.specs.declared.types.Effect.TheVariants.{Opening}
use Rattle.entry.specs.declared.types.Terms.{Terms}
use Rattle.books.specs.declared.rows.Contract.{Contract}
use Rattle.books.specs.declared.rows.Order.{Order}
use Rattle.books.specs.declared.rows.Product.{Product}
use Rattle.books.specs.Books.{ordered}
use Rattle.books.specs.Effects.{listed_product, listed_contract}
use Rattle.books.specs.Market.{Market}

-- ---- a future at 200 dollars a tick
abbrev pub future_terms : Terms
future_terms = record { fee = 300; tax = 2; limit = 5000; share = 20; ia = 83000; ib = 0; ma = 64000; mb = 0 }

-- with one month, marked 7,600
abbrev pub future_market : Market
future_market = record {
  products = listed_product (codes "TX") Futures 200 future_terms 0 ∷ [];
  contracts = listed_contract (codes "TXB") 0 Neither 0 7000 8200 7600 ∷ [];
}

-- a lot bought to open
abbrev pub purchase_at : ℕ → Order
purchase_at limit = ordered 1 0 Buy Opening limit

-- ---- calls at 5 dollars a tick, with the index at 79,800
abbrev pub call_terms : Terms
call_terms = record { fee = 100; tax = 100; limit = 5000; share = 20; ia = 19000; ib = 10000; ma = 15000; mb = 8000 }

abbrev pub calls : Product
calls = listed_product (codes "TXO") Options 5 call_terms 79800

abbrev pub call_of : ℕ → Contract
call_of strike = listed_contract (codes "TXOC") 0 Call strike 1 5000 2000
