-- The margin rules: two that stand alone, and two layers that stand on any rule. Assumes nothing.
use Rattle.std.specs.Prelude.{ℕ, ◌+◌, ◌*◌, ◌/◌, max, Bool, cond, ◌==◌, nat_le}
use Rattle.margin_rule.specs.Meanings.{Meaning, nearest}
use Rattle.margin_rule.specs.Laws.{furthest_reach}

-- every lot at the published figure
abbrev pub outright : Meaning
outright = record {
  need = λ long short figure. figure * (long + short);
  lot = λ figure. figure;
  reach = 100;
}

-- the larger side at the published figure
abbrev pub spread : Meaning
spread = record {
  need = λ long short figure. figure * max long short;
  lot = λ figure. figure;
  reach = 100;
}

-- so many percent of x, rounded up
abbrev pub percent_of : ℕ → ℕ → ℕ
percent_of percent x = (x * percent + 99) / 100

-- every answer of the rule below times a percentage
abbrev pub times : ℕ → Meaning → Meaning
times percent below = record {
  need = λ long short figure. percent_of percent (below.need long short figure);
  lot = λ figure. percent_of percent (below.lot figure);
  reach = percent_of percent below.reach;
}

-- whether its Reach then is one that a rule may have
abbrev pub stays_in_reach : ℕ → Meaning → Bool
stays_in_reach percent below = nat_le (times percent below).reach furthest_reach

-- where it would pass 2,000 the answers are those of the rule below
abbrev pub raised : ℕ → Meaning → Meaning
raised percent below = cond (stays_in_reach percent below) (times percent below) below

abbrev pub nearest_percent : ℕ → ℕ
nearest_percent = nearest 100 500

-- at least so many dollars for any lots at all
abbrev pub at_least : ℕ → Meaning → Meaning
at_least floor below = record {
  need = λ long short figure. cond (long + short == 0) 0 (max floor (below.need long short figure));
  lot = λ figure. max floor (below.lot figure);
  reach = below.reach;
}

abbrev pub nearest_floor : ℕ → ℕ
nearest_floor = nearest 0 100000000
