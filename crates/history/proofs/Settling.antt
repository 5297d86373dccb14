-- A regular close leaves no gain, and nothing else moves the surcharge.
use Rattle.std.proofs.Common.{◌≡◌, ℕ, ◌*◌, true, false, List, [], ◌∷◌, sym, refl, ap, ◌∙◌, subst, arith}
use Rattle.entry.specs.Entries.{Said, closes}
use Rattle.entry.specs.declared.types.Side.{Side}
use Rattle.margin_rule.specs.Meanings.{Meaning}
use Rattle.books.specs.declared.phase.Phase.{Phase}
use Rattle.books.specs.declared.phase.Phase.TheVariants.{Regular}
use Rattle.books.specs.declared.rows.Lots.{Lots}
use Rattle.books.specs.declared.rows.Position.{Position}
use Rattle.books.specs.Lots.{weigh}
use Rattle.books.specs.Market.{Market, marks, futures_tick, better}
use Rattle.books.specs.Books.{Books, at_regular_close}
use Rattle.books.specs.Figures.{lot_gain, surcharge_of}
use Rattle.books.specs.Tests.{taken}
use Rattle.books.specs.Effects.{effect_of, closed, rebased}
use Rattle.history.specs.Histories.{Event, phase_of, tells}
use Rattle.history.specs.Law.{event, Settles}

nothing_won : (s : Side) (k tick now : ℕ) → k * (tick * better s now now) ≡ 0
nothing_won s k tick now = grind arith

-- lots whose base is the mark have gained nothing
gain_rebased : (m : Market) (ls : List (Lots Position)) → weigh (lot_gain m (marks m)) (rebased (marks m) ls) ≡ 0
gain_rebased m [] = refl
gain_rebased m (l ∷ ls) = omega (arith, gain_rebased m ls, nothing_won l.of.side l.count (futures_tick m l.of.contract) (marks m l.of.contract))

module _ (rule : Meaning) (h : List Event) (b : Books) (n : ℕ) (phase : phase_of h ≡ b.phase) where
  close_settles : (at : Phase) → b.phase ≡ at → Settles (at_regular_close at true false) (event rule b closes (taken n) (closed rule b))
  close_settles Regular e = ap (λ q. weigh (lot_gain b.market (marks b.market)) (at_regular_close q (rebased (marks b.market) b.lines) b.lines)) e ∙ gain_rebased b.market b.lines
  close_settles _ e = ap (λ q. at_regular_close q (surcharge_of b.market b.lines) b.surcharge) e

  pub settles_step : (e : Said) → Settles (tells (phase_of h) e).session.settles (event rule b e (taken n) (effect_of rule b e))
  settles_step closes = subst (λ q. Settles (at_regular_close q true false) (event rule b closes (taken n) (closed rule b))) (sym phase) (close_settles b.phase refl)
  settles_step _ = refl
