-- A history: what was entered, what was answered, and what a report showed before and after, the newest first. Everything here is
-- read off the history alone, over the taken entries. Assumes nothing.
use Rattle.std.specs.Prelude.{ℕ, ◌+◌, ◌*◌, Bool, true, false, cond, List, [], ◌∷◌, ℤ, pos, ◌+ℤ◌, ◌-ℤ◌, Some, None, Option, ◌==◌}
use borrow.Author.Differences.{up}
use Rattle.std.specs.Str.{bytes_eq}
use Rattle.entry.specs.Entries.{Said, lists_product, lists_contract, announces, sets_band, sets_spot, sets_mark, deposits, withdraws, cancels, orders, fills, opens, closes, ends_deadline}
use Rattle.entry.specs.declared.types.Kind.{Kind}
use Rattle.entry.specs.declared.types.Kind.TheVariants.{Futures}
use Rattle.entry.specs.declared.types.Side.{Side}
use Rattle.entry.specs.declared.types.Side.TheVariants.{Buy}
use Rattle.entry.specs.declared.types.Terms.{Terms}
use Rattle.books.specs.declared.phase.Phase.{Phase}
use Rattle.books.specs.declared.phase.Phase.TheVariants.{Before}
use Rattle.books.specs.Books.{by_effect, next_phase, at_regular_close}
use Rattle.books.specs.Figures.{Figures, result}
use Rattle.books.specs.Market.{by_kind, by_side, tax_of, no_terms}
use Rattle.books.specs.Tests.{Answer, taken, declined}

pub record Event : Type 0 where
  pub entry : Said
  pub answer : Answer
  pub before : Figures
  pub after : Figures

-- ---- what a taken entry tells
-- of a product: its name with its kind and tick, or with its terms; of a contract: its name with its product, or with its mark
pub record Named (A : Type 0) : Type 0 where
  pub name : List ℕ
  pub value : A

pub record Listing : Type 0 where
  pub kind : Kind
  pub tick : ℕ

pub record Placed : Type 0 where
  pub contract : List ℕ
  pub side : Side

pub record Fill : Type 0 where
  pub order : ℕ
  pub lots : ℕ
  pub price : ℕ

-- of the market: a product's listing and terms, a contract's product and mark
pub record OfMarket : Type 0 where
  pub listing : Option (Named Listing)
  pub terms : Option (Named Terms)
  pub product : Option (Named (List ℕ))
  pub mark : Option (Named ℕ)

abbrev pub no_market : OfMarket
no_market = record { listing = None; terms = None; product = None; mark = None }

abbrev pub under : {A : Type 0} → List ℕ → A → Option (Named A)
under name value = Some (record { name = name; value = value })

abbrev pub product_listed : List ℕ → Listing → Terms → OfMarket
product_listed name listing terms = record { listing = under name listing; terms = under name terms; product = None; mark = None }

abbrev pub contract_listed : List ℕ → List ℕ → ℕ → OfMarket
contract_listed name product mark = record { listing = None; terms = None; product = under name product; mark = under name mark }

abbrev pub terms_set : List ℕ → Terms → OfMarket
terms_set name terms = record { listing = None; terms = under name terms; product = None; mark = None }

abbrev pub mark_set : List ℕ → ℕ → OfMarket
mark_set name price = record { listing = None; terms = None; product = None; mark = under name price }

-- of deals: an order, a fill, cash
pub record OfDeals : Type 0 where
  pub order : Option Placed
  pub fill : Option Fill
  pub cash_in : ℕ
  pub cash_out : ℕ

abbrev pub no_deal : OfDeals
no_deal = record { order = None; fill = None; cash_in = 0; cash_out = 0 }

abbrev pub cash : ℕ → ℕ → OfDeals
cash in' out = record { order = None; fill = None; cash_in = in'; cash_out = out }

abbrev pub placing : List ℕ → Side → OfDeals
placing contract side = record { order = Some (record { contract = contract; side = side }); fill = None; cash_in = 0; cash_out = 0 }

abbrev pub filling : ℕ → ℕ → ℕ → OfDeals
filling order lots price = record { order = None; fill = Some (record { order = order; lots = lots; price = price }); cash_in = 0; cash_out = 0 }

-- of the session: whether the entry opens or closes it, whether it is a regular close, whether its fall counts
pub record OfSession : Type 0 where
  pub turns : Bool
  pub settles : Bool
  pub falls : Bool

abbrev pub session_goes_on : OfSession
session_goes_on = record { turns = false; settles = false; falls = false }

abbrev pub fall_if : Bool → OfSession
fall_if counts = record { turns = false; settles = false; falls = counts }

abbrev pub turn : Bool → OfSession
turn regular_close = record { turns = true; settles = regular_close; falls = regular_close }

pub record Told : Type 0 where
  pub market : OfMarket
  pub deals : OfDeals
  pub session : OfSession

abbrev pub told : OfMarket → OfDeals → OfSession → Told
told market deals session = record { market = market; deals = deals; session = session }

-- the falls of marks, spots, announcements, regular closes and closing orders count
abbrev pub tells : Phase → Said → Told
tells phase (lists_product name kind tick terms spot) = told (product_listed name (record { kind = kind; tick = tick }) terms) no_deal session_goes_on
tells phase (lists_contract name product right strike floor ceiling mark) = told (contract_listed name product mark) no_deal session_goes_on
tells phase (announces name terms) = told (terms_set name terms) no_deal (fall_if true)
tells phase (sets_band contract floor ceiling) = told no_market no_deal session_goes_on
tells phase (sets_spot product price) = told no_market no_deal (fall_if true)
tells phase (sets_mark contract price) = told (mark_set contract price) no_deal (fall_if true)
tells phase (deposits amount) = told no_market (cash amount 0) session_goes_on
tells phase (withdraws amount) = told no_market (cash 0 amount) session_goes_on
tells phase (cancels order) = told no_market no_deal session_goes_on
tells phase (orders contract side effect lots price) = told no_market (placing contract side) (fall_if (by_effect effect false true))
tells phase (fills order lots price) = told no_market (filling order lots price) session_goes_on
tells phase opens = told no_market no_deal (turn false)
tells phase closes = told no_market no_deal (turn (at_regular_close phase true false))
tells phase ends_deadline = told no_market no_deal session_goes_on

-- of a taken entry what it tells, of a declined one nothing
abbrev pub when : {A : Type 0} → Answer → A → (ℕ → A) → A
when (taken n) d f = f n
when (declined number short) d f = d

abbrev pub known : {A B : Type 0} → Option A → B → (A → B) → B
known None d f = d
known (Some x) d f = f x

-- what was told last under a name
abbrev pub latest : {A : Type 0} → Option (Named A) → List ℕ → A → A
latest None name older = older
latest (Some x) name older = cond (bytes_eq x.name name) x.value older

-- ---- what stands at the end of a history
abbrev pub phase_of : List Event → Phase
phase_of [] = Before
phase_of (e ∷ h) = when e.answer (phase_of h) (λ n. cond (tells (phase_of h) e.entry).session.turns (next_phase (phase_of h)) (phase_of h))

abbrev pub told_by : List Event → Event → Told
told_by h e = when e.answer (told no_market no_deal session_goes_on) (λ n. tells (phase_of h) e.entry)

-- a product's kind and tick, and its terms as last published
abbrev pub listing_of : List Event → List ℕ → Listing
listing_of [] name = record { kind = Futures; tick = 0 }
listing_of (e ∷ h) name = latest (told_by h e).market.listing name (listing_of h name)

abbrev pub terms_of : List Event → List ℕ → Terms
terms_of [] name = no_terms
terms_of (e ∷ h) name = latest (told_by h e).market.terms name (terms_of h name)

-- a contract's product, and its mark as last listed or set
abbrev pub product_of : List Event → List ℕ → List ℕ
product_of [] name = []
product_of (e ∷ h) name = latest (told_by h e).market.product name (product_of h name)

abbrev pub mark_of : List Event → List ℕ → ℕ
mark_of [] name = 0
mark_of (e ∷ h) name = latest (told_by h e).market.mark name (mark_of h name)

-- the contract and the side of the taken order with a number
abbrev pub placed_as : List Event → ℕ → Placed
placed_as [] n = record { contract = []; side = Buy }
placed_as (e ∷ h) n = when e.answer (placed_as h n) (λ m. known (tells (phase_of h) e.entry).deals.order (placed_as h n) (λ p. cond (m == n) p (placed_as h n)))

-- what is published of the product of a contract, and what a tick of its futures lots or of its option lots is worth
abbrev pub terms_for : List Event → List ℕ → Terms
terms_for h contract = terms_of h (product_of h contract)

abbrev pub listing_for : List Event → List ℕ → Listing
listing_for h contract = listing_of h (product_of h contract)

abbrev pub futures_tick_for : List Event → List ℕ → ℕ
futures_tick_for h contract = by_kind (listing_for h contract).kind (listing_for h contract).tick 0

abbrev pub option_tick_for : List Event → List ℕ → ℕ
option_tick_for h contract = by_kind (listing_for h contract).kind 0 (listing_for h contract).tick

-- ---- sums over the taken entries
-- each entry's part, which may look at what came before it
abbrev pub over : (List Event → Told → ℕ) → List Event → ℕ
over f [] = 0
over f (e ∷ h) = f h (told_by h e) + over f h

-- so much for each fill: its contract and side are those of the taken order with its number
abbrev pub of_fills : (List Event → Placed → Fill → ℕ) → List Event → Told → ℕ
of_fills f before t = known t.deals.fill 0 (λ x. f before (placed_as before x.order) x)

abbrev pub cash_in_of : List Event → ℕ
cash_in_of = over (λ before t. t.deals.cash_in)

abbrev pub cash_out_of : List Event → ℕ
cash_out_of = over (λ before t. t.deals.cash_out)

-- the fee and the tax of each filled lot, as then published
abbrev pub fees_in : List Event → Placed → Fill → ℕ
fees_in before p x = x.lots * (terms_for before p.contract).fee

abbrev pub taxes_in : List Event → Placed → Fill → ℕ
taxes_in before p x = x.lots * tax_of x.price (listing_for before p.contract).tick (terms_for before p.contract).tax

-- the premium of each filled option lot
abbrev pub premium : List Event → Placed → Fill → ℕ
premium before p x = x.lots * (x.price * option_tick_for before p.contract)

abbrev pub fees : List Event → ℕ
fees = over (of_fills fees_in)

abbrev pub taxes : List Event → ℕ
taxes = over (of_fills taxes_in)

abbrev pub received : List Event → ℕ
received = over (of_fills (λ before p x. by_side p.side 0 (premium before p x)))

abbrev pub paid : List Event → ℕ
paid = over (of_fills (λ before p x. by_side p.side (premium before p x) 0))

-- every futures fill measured to the marks given, the negative for a sale
abbrev pub measure : (List ℕ → ℕ) → List Event → Placed → Fill → ℤ
measure mark before p x = result p.side (x.lots * futures_tick_for before p.contract) (mark p.contract) x.price

abbrev pub measured : (List ℕ → ℕ) → List Event → ℤ
measured mark [] = pos 0
measured mark (e ∷ h) = known (told_by h e).deals.fill (pos 0) (λ x. measure mark h (placed_as h x.order) x) +ℤ measured mark h

-- available before less available after, where positive, of the entries whose falls count
abbrev pub fall : Event → ℕ
fall e = up (e.before.available -ℤ e.after.available)

abbrev pub falls : List Event → ℕ
falls [] = 0
falls (e ∷ h) = cond (told_by h e).session.falls (fall e) 0 + falls h
