-- What an entry makes of the market: which rows stay, and that they bear the names and ticks that they bore.
use Rattle.std.proofs.Common.{◌≡◌, ℕ, ◌<◌, List, [], ◌∷◌, ◌++◌, length, Option, arith, rules}
use Rattle.std.proofs.lemmas.List.{length_push, get_or_append_left}
use Rattle.entry.specs.Entries.{Said, opens}
use Rattle.books.specs.declared.rows.Contract.{Contract}
use Rattle.books.specs.declared.rows.Product.{Product}
use Rattle.books.specs.Names.{name_bytes}
use Rattle.books.specs.Market.{Market, contract_at, futures_tick, changed_at, no_contract}
use Rattle.books.specs.Effects.{market_after, with_band}
use Rattle.history.proofs.KeepsRows.{changed_leaves, length-changed}
use Rattle.history.proofs.Extending.{Extends}

-- contracts of listed products
abbrev pub Owned : Market → Type 0
Owned m = (c : ℕ) → c < length m.contracts → (contract_at m c).product < length m.products

abbrev pub product_name : Product → List ℕ
product_name p = name_bytes p.name

abbrev pub contract_name : Contract → List ℕ
contract_name c = name_bytes c.name

-- names and ticks of the contracts of m stand in n too
pub record Keeps (m n : Market) : Type 0 where
  pub names : (c : ℕ) → c < length m.contracts → contract_name (contract_at n c) ≡ contract_name (contract_at m c)
  pub ticks : (c : ℕ) → c < length m.contracts → futures_tick n c ≡ futures_tick m c

module _ (m : Market) (owned : Owned m) where
  pub market_keeps : (e : Said) → Keeps m (market_after m e)
  market_keeps opens = search rules
  market_keeps _ = search (rules, arith, get_or_append_left, changed_leaves, owned)

-- listings and bands move no figure
pub product_extends : (m : Market) (p : Product) → Extends m (record { products = m.products ++ p ∷ []; contracts = m.contracts })
product_extends m p =
    let size = length_push m.products p in
    search (rules, arith, get_or_append_left)

pub contract_extends : (m : Market) (r : Contract) → Extends m (record { products = m.products; contracts = m.contracts ++ r ∷ [] })
contract_extends m r =
    let size = length_push m.contracts r in
    search (rules, arith, get_or_append_left)

pub band_extends : (m : Market) (place : Option ℕ) (floor ceiling : ℕ) →
    Extends m (record { products = m.products; contracts = changed_at no_contract m.contracts place (with_band floor ceiling) })
band_extends m place floor ceiling =
    let f = with_band floor ceiling in
    let size = length-changed no_contract m.contracts place f in
    search (rules, arith, changed_leaves)
