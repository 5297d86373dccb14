-- What an account holds. Assumes nothing.
use Rattle.std.specs.Prelude.{ℕ, Bool, true, false, ◌&&◌, List, [], ℤ, pos, ◌==◌}
use Rattle.entry.specs.declared.types.Side.{Side}
use Rattle.entry.specs.declared.types.Side.TheVariants.{Buy}
use Rattle.entry.specs.declared.types.Effect.{Effect}
use Rattle.entry.specs.declared.types.Effect.TheVariants.{Opening, Closing}
use Rattle.books.specs.declared.phase.Phase.{Phase}
use Rattle.books.specs.declared.phase.Phase.TheVariants.{Before, Regular, Settled, AfterHours}
use Rattle.books.specs.declared.phase.Call.{Call}
use Rattle.books.specs.declared.phase.Call.TheVariants.{NoCall}
use Rattle.books.specs.declared.rows.Lots.{Lots}
use Rattle.books.specs.declared.rows.Order.{Order}
use Rattle.books.specs.declared.rows.Position.{Position}
use Rattle.books.specs.Market.{Market, contract_at, same_side, other_side}

pub record Books : Type 0 where
  -- cash
  pub balance : ℤ
  -- as the last regular close worked it out
  pub surcharge : ℕ
  -- orders taken so far, which is the number of the last
  pub given : ℕ
  pub phase : Phase
  pub call : Call
  pub market : Market
  pub orders : List (Lots Order)
  -- the oldest first
  pub lines : List (Lots Position)

abbrev pub new : Books
new = record {
  balance = pos 0;
  surcharge = 0;
  given = 0;
  phase = Before;
  call = NoCall;
  market = record { products = []; contracts = [] };
  orders = [];
  lines = [];
}

-- a new order, and one that is no order
abbrev pub ordered : ℕ → ℕ → Side → Effect → ℕ → Order
ordered number contract side effect limit = record { number = number; contract = contract; side = side; effect = effect; limit = limit }

abbrev pub no_order : Lots Order
no_order = record { of = ordered 0 0 Buy Opening 0; count = 0 }

-- one thing for opening orders, another for closing ones
abbrev pub by_effect : {A : Type 0} → Effect → A → A → A
by_effect Opening o c = o
by_effect Closing o c = c

abbrev pub numbered : ℕ → Order → Bool
numbered n o = o.number == n

-- lots of a contract on a side, and of a product on a side
abbrev pub of_contract : ℕ → Side → Position → Bool
of_contract c side l = l.contract == c && same_side l.side side

abbrev pub of_product : Market → ℕ → Side → Position → Bool
of_product m i side l = (contract_at m l.contract).product == i && same_side l.side side

-- the lots that an order closes
abbrev pub closable : Order → Position → Bool
closable o = of_contract o.contract (other_side o.side)

-- the orders that close lots of a contract on a side, and those that open lots
abbrev pub closes_on : ℕ → Side → Order → Bool
closes_on c side o = by_effect o.effect false (o.contract == c && same_side o.side (other_side side))

abbrev pub opens_lots : Order → Bool
opens_lots o = by_effect o.effect true false

-- the phases in which orders stand
abbrev pub in_session : Phase → Bool
in_session Before = false
in_session Regular = true
in_session Settled = false
in_session AfterHours = true

-- an open and a close both lead to the next phase
abbrev pub next_phase : Phase → Phase
next_phase Before = Regular
next_phase Regular = Settled
next_phase Settled = AfterHours
next_phase AfterHours = Before

-- one thing at a regular close, another at an after-hours one
abbrev pub at_regular_close : {A : Type 0} → Phase → A → A → A
at_regular_close Before r a = a
at_regular_close Regular r a = r
at_regular_close Settled r a = a
at_regular_close AfterHours r a = a
