-- What every run keeps of the books. Assumes nothing.
use Rattle.std.specs.Prelude.{List, pos, ◌≤ℤ◌}
use Rattle.margin_rule.specs.Meanings.{Meaning}
use Rattle.margin_rule.specs.Laws.{Laws}
use Rattle.books.specs.Market.{Prices}
use Rattle.books.specs.Books.{Books}
use Rattle.books.specs.Figures.{figures, den_at}
use Rattle.books.specs.Sound.{Sound, FiguresFit, InBands}
use Rattle.history.specs.Histories.{Event}
use Rattle.history.specs.Law.{Ran}

-- the invariant of the books, how far their figures go, and den at all prices in their bands, not at the marks alone
pub record Kept (rule : Meaning) (b : Books) : Type 0 where
  pub sound : Sound b
  pub figures_fit : FiguresFit (figures rule b)
  pub den_at_any_prices : (price : Prices) → InBands b.market price → pos 0 ≤ℤ den_at rule b price

abbrev pub EveryRunIsKept : Type 0
EveryRunIsKept = (rule : Meaning) → Laws rule → (h : List Event) (b : Books) → Ran rule h b → Kept rule b
