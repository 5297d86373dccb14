-- Every run is lawful: the parts of the law go from each books to the next, whatever is entered.
use Rattle.std.proofs.Common.{◌≡◌, ℕ, ◌<◌, List, [], ◌∷◌, length, ◌+ℤ◌, sym, refl, ap, ◌∙◌, subst, subst₂, arith, rules}
use Rattle.std.proofs.ByRecursion.{All-from_get_or}
use Rattle.std.proofs.lemmas.Int.{ints}
use Rattle.std.specs.List.{AllByRecursion}
use Rattle.entry.specs.Entries.{Said, opens}
use Rattle.margin_rule.specs.Meanings.{Meaning}
use Rattle.margin_rule.specs.Laws.{Laws}
use Rattle.books.specs.Market.{marks}
use Rattle.books.specs.Books.{Books, new}
use Rattle.books.specs.Figures.{available, results}
use Rattle.books.specs.Tests.{Answer, taken, declined, tests, number, answer}
use Rattle.books.specs.Effects.{effect_of, market_after}
use Rattle.books.specs.Effects as effects
use Rattle.books.specs.Sound.{Sound, no_line}
use Rattle.history.specs.Histories.{Event, phase_of, mark_of, falls, fees, taxes}
use Rattle.history.specs.Law.{event, Ran, begins, enters, entered_into, history_into, RefusedBelowMaintenance, EveryRunIsLawful, EveryListIsLawful, EveryEntryRunsOn, RunsOn, SettledAtRegularCloses}
use Rattle.history.specs.Keeping.{EveryRunIsKept}
use Rattle.history.proofs.Tested.{passed}
use Rattle.history.proofs.Results.{results_agree}
use Rattle.history.proofs.KeepsSound.{sound_new, sound_step}
use Rattle.history.proofs.Agreement.{MarketsAgree, OrdersAgree, markets_agree_step, orders_agree_step, phases_agree_step}
use Rattle.history.proofs.Values.{worth, summed, named, value_step, value_same}
use Rattle.history.proofs.Cover.{Covered, cover_step}
use Rattle.history.proofs.Risk.{den_not_negative, marks_in_bands}
use Rattle.history.proofs.Refusing.{refused_step}
use Rattle.history.proofs.Settling.{settles_step}
use Rattle.history.proofs.Bounding.{figures_fit}

-- what goes from each books to the next
pub record Holds (rule : Meaning) (h : List Event) (b : Books) : Type 0 where
  pub sound : Sound b
  pub phase : phase_of h ≡ b.phase
  pub market : MarketsAgree h b.market
  pub orders : OrdersAgree h b.market b.orders
  pub value : (mk : List ℕ → ℕ) → worth b mk ≡ summed mk h
  pub covered : Covered (available rule b) (falls h) (fees h) (taxes h)
  pub refused : AllByRecursion RefusedBelowMaintenance h
  pub settled : SettledAtRegularCloses h

market_after_lem : (rule : Meaning) (b : Books) (e : Said) → market_after b.market e ≡ (effect_of rule b e).market
market_after_lem rule b opens = refl
market_after_lem rule b _ = refl

module _ (rule : Meaning) (laws : Laws rule) (h : List Event) (b : Books) (r : Holds rule h b) (e : Said) where
  step : (x : Answer) → answer rule b e ≡ x → Sound (effects.settled b (effect_of rule b e) x) →
      Holds rule (event rule b e x (effects.settled b (effect_of rule b e) x) ∷ h) (effects.settled b (effect_of rule b e) x)
  -- a declined entry adds nothing
  step (declined k short) q s = record {
    sound = r.sound;
    phase = r.phase;
    market = search rules;
    orders = r.orders;
    value = λ mk. value_same rule h b b k short e mk (worth b mk) (r.value mk);
    covered = omega (arith, ints, r.covered);
    refused = (refused_step rule b laws r.sound e (declined k short) q, r.refused);
    settled = (refl, r.settled);
  }
  step (taken n) q s =
      let p = passed (tests rule b e) (number b e) n q in
      let owned = λ (c : ℕ) (l : c < length b.market.contracts). (r.sound.contracts c l).0 in
      let same = market_after_lem rule b e in
      let h' = event rule b e (taken n) (effect_of rule b e) ∷ h in
      record {
        sound = s;
        phase = phases_agree_step rule h b (effect_of rule b e) n r.phase e;
        market = subst (λ m. MarketsAgree h' m) same (markets_agree_step rule h b (effect_of rule b e) n owned r.market e p.0);
        orders = subst (λ m. OrdersAgree h' m (effect_of rule b e).orders) same (orders_agree_step rule h b (effect_of rule b e) n r.sound r.orders e p.0 p.1);
        value = λ mk. value_step rule h b r.sound r.market r.orders mk (effect_of rule b e) n e p.0 (r.value mk);
        covered = cover_step rule laws h b r.sound r.phase r.market r.orders r.covered e p.0;
        refused = (refused_step rule b laws r.sound e (taken n) q, r.refused);
        settled = (settles_step rule h b n r.phase e, r.settled);
      }

pub holds : (rule : Meaning) (laws : Laws rule) {h : List Event} {b : Books} → Ran rule h b → Holds rule h b
holds rule laws begins = search (rules, arith, ints, sound_new)
holds rule laws (enters {h} {b} ran e) =
    let r = holds rule laws ran in
    step rule laws h b r e (answer rule b e) refl (sound_step rule b r.sound e)

-- the marks last listed or set are those of the books, wherever lots are held
marks_told : (rule : Meaning) (h : List Event) (b : Books) → Holds rule h b →
    results b.market (marks b.market) b.lines ≡ results b.market (named b.market (mark_of h)) b.lines
marks_told rule h b r =
    results_agree b.market b.market (marks b.market) (named b.market (mark_of h)) b.lines
    (All-from_get_or _ b.lines no_line (λ i l. (refl, sym (r.market.marks _ (r.sound.lines i l).0))))

pub every_run_is_lawful : EveryRunIsLawful
every_run_is_lawful rule laws h b ran =
    let r = holds rule laws ran in
    record {
      available_is_covered = r.covered;
      equity_is_cash_and_fills = ap (λ w. b.balance +ℤ w) (marks_told rule h b r) ∙ r.value (mark_of h);
      refused_below_maintenance = r.refused;
      settled_at_regular_closes = r.settled;
      den_is_not_negative = den_not_negative rule laws b r.sound (marks b.market) (marks_in_bands rule laws b r.sound);
    }

pub every_run_is_kept : EveryRunIsKept
every_run_is_kept rule laws h b ran =
    let s = (holds rule laws ran).sound in
    record { sound = s; figures_fit = figures_fit rule laws b s; den_at_any_prices = den_not_negative rule laws b s }

-- ---- lists of entries, and single ones
ran_through : (rule : Meaning) (es : List Said) {h : List Event} {b : Books} → Ran rule h b → Ran rule (history_into rule b h es) (entered_into rule b es)
ran_through rule [] ran = ran
ran_through rule (e ∷ es) ran = ran_through rule es (enters ran e)

pub every_list_is_lawful : EveryListIsLawful
every_list_is_lawful rule laws es = every_run_is_lawful rule laws (history_into rule new [] es) (entered_into rule new es) (ran_through rule es begins)

-- a call that answers and does what the rule book says runs every history on
pub every_entry_runs_on : EveryEntryRunsOn
every_entry_runs_on rule laws b e x b' p q =
    subst₂ (λ (y : Answer) (c : Books). RunsOn rule b e y c) (sym p) (sym q) (λ h ran. (enters ran e, every_run_is_lawful rule laws _ _ (enters ran e)))
