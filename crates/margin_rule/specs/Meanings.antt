-- What a margin rule answers to its three questions, and what a question outside its range is taken as. Assumes nothing.
use Rattle.std.specs.Prelude.{ℕ, min, max}

-- Need in dollars for so many long and short lots at a published figure; Lot, what an order reserves for one lot at a published
-- figure; Reach, a percentage
pub record Meaning : Type 0 where
  pub need : ℕ → ℕ → ℕ → ℕ
  pub lot : ℕ → ℕ
  pub reach : ℕ

-- the most lots of a side, and the highest published figure, that a question may name
abbrev pub most_lots : ℕ
most_lots = 51200

abbrev pub highest_figure : ℕ
highest_figure = 100000000

-- x, or the end of the range from low to high that is nearest to it
abbrev pub nearest : ℕ → ℕ → ℕ → ℕ
nearest low high x = max low (min high x)

abbrev pub nearest_lots : ℕ → ℕ
nearest_lots = nearest 0 most_lots

abbrev pub nearest_figure : ℕ → ℕ
nearest_figure = nearest 1 highest_figure

-- what a rule answers to any question: what it means at the nearest ends of the ranges
abbrev pub asked : Meaning → Meaning
asked rule = record {
  need = λ long short figure. rule.need (nearest_lots long) (nearest_lots short) (nearest_figure figure);
  lot = λ figure. rule.lot (nearest_figure figure);
  reach = rule.reach;
}
