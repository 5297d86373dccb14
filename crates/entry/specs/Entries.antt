-- What a line says, as a value that borrows nothing: the fourteen entries that write to an account, and the report.
use Rattle.std.specs.Prelude.{ℕ, List}
use Rattle.entry.specs.declared.types.Effect.{Effect}
use Rattle.entry.specs.declared.types.Entry.{Entry}
use Rattle.entry.specs.declared.types.Entry.TheVariants.{Product, Contract, Announce, Band, Spot, Mark, Deposit, Withdraw, Cancel, Order, Fill, Open, Close, Deadline}
use Rattle.entry.specs.declared.types.Kind.{Kind}
use Rattle.entry.specs.declared.types.Request.{Request}
use Rattle.entry.specs.declared.types.Request.TheVariants.{Enter, Report}
use Rattle.entry.specs.declared.types.Right.{Right}
use Rattle.entry.specs.declared.types.Side.{Side}
use Rattle.entry.specs.declared.types.Terms.{Terms}

-- an entry with the bytes of its names
pub data Said : Type 0 where
  lists_product : (name : List ℕ) (kind : Kind) (tick : ℕ) (terms : Terms) (spot : ℕ) → Said
  lists_contract : (name product : List ℕ) (right : Right) (strike floor ceiling mark : ℕ) → Said
  announces : (name : List ℕ) (terms : Terms) → Said
  sets_band : (contract : List ℕ) (floor ceiling : ℕ) → Said
  sets_spot : (product : List ℕ) (price : ℕ) → Said
  sets_mark : (contract : List ℕ) (price : ℕ) → Said
  deposits : (amount : ℕ) → Said
  withdraws : (amount : ℕ) → Said
  cancels : (order : ℕ) → Said
  orders : (contract : List ℕ) (side : Side) (effect : Effect) (lots price : ℕ) → Said
  fills : (order lots price : ℕ) → Said
  opens : Said
  closes : Said
  ends_deadline : Said

abbrev pub said : Entry → Said
said (Product name kind tick terms spot) = lists_product name.now kind tick terms spot
said (Contract name product right strike floor ceiling mark) = lists_contract name.now product.now right strike floor ceiling mark
said (Announce name terms) = announces name.now terms
said (Band contract floor ceiling) = sets_band contract.now floor ceiling
said (Spot product price) = sets_spot product.now price
said (Mark contract price) = sets_mark contract.now price
said (Deposit amount) = deposits amount
said (Withdraw amount) = withdraws amount
said (Cancel order) = cancels order
said (Order contract side effect lots price) = orders contract.now side effect lots price
said (Fill order lots price) = fills order lots price
said Open = opens
said Close = closes
said Deadline = ends_deadline

pub data Asked : Type 0 where
  enters : Said → Asked
  reports : Asked

abbrev pub asked : Request → Asked
asked (Enter e) = enters (said e)
asked Report = reports
