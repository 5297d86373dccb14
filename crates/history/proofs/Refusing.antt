-- An opening order or a withdrawal below the maintenance need is declined: it is taken out of available alone, and available is below
-- equity by the initial need at least.
use Rattle.std.proofs.Common.{◌≡◌, true, pos, ◌≤ℤ◌, ◌<ℤ◌, arith}
use Rattle.std.proofs.lemmas.Int.{ints}
use Rattle.entry.specs.Entries.{Said, withdraws, orders}
use Rattle.entry.specs.declared.types.Effect.TheVariants.{Opening}
use Rattle.margin_rule.specs.Meanings.{Meaning}
use Rattle.margin_rule.specs.Laws.{Laws}
use Rattle.books.specs.Books.{Books}
use Rattle.books.specs.Figures.{equity, maintenance_need, available}
use Rattle.books.specs.Sound.{Sound}
use Rattle.books.specs.Tests.{Answer, taken, declined, tests, number, answer}
use Rattle.history.specs.Law.{draws, Declined}
use Rattle.history.proofs.Tested.{Passed, passed}
use Rattle.history.proofs.Risk.{maintenance_below_initial}

module _ (rule : Meaning) (b : Books) where
  drawn_from : (e : Said) → draws e ≡ true → Passed (tests rule b e) → pos 0 ≤ℤ available rule b
  drawn_from (withdraws amount) d p = omega (arith, ints, p.1.0)
  drawn_from (orders contract side Opening lots price) d p = omega (arith, ints, p.1.1.1.1.1.1.1.0)
  drawn_from _ d p = cc

  pub refused_step : Laws rule → Sound b → (e : Said) (x : Answer) → answer rule b e ≡ x → draws e ≡ true → equity b <ℤ pos (maintenance_need rule b) → Declined x
  refused_step laws s e (declined number short) q d l = tt
  refused_step laws s e (taken n) q d l =
      absurd (omega (arith, ints, l, maintenance_below_initial rule laws b s, drawn_from e d (passed (tests rule b e) (number b e) n q).0))
