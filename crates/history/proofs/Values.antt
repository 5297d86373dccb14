-- Equity at any value given to each contract: cash and results are what the history's sums come to.
use Rattle.std.proofs.Common.{◌≡◌, ℕ, ◌≤◌, true, List, ◌∷◌, ℤ, pos, ◌+ℤ◌, ◌-ℤ◌, is_some, refl, ap, arith}
use Rattle.std.proofs.lemmas.Int.{ints}
use Rattle.std.proofs.lemmas.Bool.{leb-true}
use Rattle.entry.specs.Entries.{Said, fills, closes}
use Rattle.margin_rule.specs.Meanings.{Meaning}
use Rattle.books.specs.declared.phase.Phase.{Phase}
use Rattle.books.specs.declared.phase.Phase.TheVariants.{Regular}
use Rattle.books.specs.Market.{Market, Prices, by_side, contract_at, marks}
use Rattle.books.specs.Books.{Books, at_regular_close}
use Rattle.books.specs.Figures.{results}
use Rattle.books.specs.Tests.{taken, declined, tests, order_place, order_by}
use Rattle.books.specs.Effects.{effect_of, market_after, rebased}
use Rattle.books.specs.Sound.{Sound}
use Rattle.history.specs.Histories.{Event, Told, tells, phase_of, of_fills, known, fees_in, taxes_in, premium, measure, measured, placed_as, cash_in_of, cash_out_of, fees, taxes, received, paid}
use Rattle.history.specs.Law.{event}
use Rattle.history.proofs.Tested.{Passed}
use Rattle.history.proofs.Extending.{refers, of_lines}
use Rattle.history.proofs.Results.{Alike, results_agree, results_rebased}
use Rattle.history.proofs.Markets.{contract_name, market_keeps}
use Rattle.history.proofs.Agreement.{MarketsAgree, OrdersAgree}
use Rattle.history.proofs.Filling.{fill_moves}
use Rattle.history.proofs.Standing.{order_closes, fees_known, taxes_known, received_known, paid_known, measure_known}

-- the price of a contract by its name
abbrev pub named : Market → (List ℕ → ℕ) → Prices
named m mk c = mk (contract_name (contract_at m c))

abbrev pub worth : Books → (List ℕ → ℕ) → ℤ
worth b mk = b.balance +ℤ results b.market (named b.market mk) b.lines

-- what the sums over a history come to
abbrev pub summed : (List ℕ → ℕ) → List Event → ℤ
summed mk h = pos (cash_in_of h) -ℤ pos (cash_out_of h) -ℤ pos (fees h) -ℤ pos (taxes h) +ℤ measured mk h +ℤ pos (received h) -ℤ pos (paid h)

-- one entry's part of them
abbrev moved : (List ℕ → ℕ) → List Event → Told → ℤ → ℤ
moved mk h t v =
    v +ℤ pos t.deals.cash_in -ℤ pos t.deals.cash_out -ℤ pos (of_fills fees_in h t) -ℤ pos (of_fills taxes_in h t)
    +ℤ known t.deals.fill (pos 0) (λ x. measure mk h (placed_as h x.order) x)
    +ℤ pos (of_fills (λ before p x. by_side p.side 0 (premium before p x)) h t) -ℤ pos (of_fills (λ before p x. by_side p.side (premium before p x) 0) h t)

-- ---- each taken entry
module _ (rule : Meaning) (h : List Event) (b : Books) (s : Sound b) (a : MarketsAgree h b.market) (os : OrdersAgree h b.market b.orders) (mk : List ℕ → ℕ) where
  -- an entry that changes the market alone
  market_worth : (e : Said) → results (market_after b.market e) (named (market_after b.market e) mk) b.lines ≡ results b.market (named b.market mk) b.lines
  market_worth e =
      let keeps = market_keeps b.market (λ i l. (s.contracts i l).0) e in
      let m = market_after b.market e in
      let alike = of_lines b (refers b s) (Alike m b.market (named m mk) (named b.market mk)) (λ l f. (keeps.ticks l.contract f, ap mk (keeps.names l.contract f))) in
      results_agree m b.market (named m mk) (named b.market mk) b.lines alike

  closed_worth : (phase : Phase) → results b.market (named b.market mk) (at_regular_close phase (rebased (marks b.market) b.lines) b.lines) ≡ results b.market (named b.market mk) b.lines
  closed_worth Regular = results_rebased b.market (named b.market mk) (marks b.market) b.lines
  closed_worth _ = refl

  -- a fill of a standing order
  moves_fill : (order lots price : ℕ) → is_some (order_place b order) ≡ true → lots ≤ (order_by b order).count →
      worth (effect_of rule b (fills order lots price)) mk ≡ moved mk h (tells (phase_of h) (fills order lots price)) (worth b mk)
  moves_fill order lots price known enough =
      let m = b.market in
      let moves = fill_moves m (named m mk) b.lines (order_by b order).of lots price (order_closes b order known s lots enough) in
      omega (
        arith,
        ints,
        measure_known b order known h s a os lots price mk,
        received_known b order known h s a os lots price,
        paid_known b order known h s a os lots price,
        fees_known b order known h s a os lots price,
        taxes_known b order known h s a os lots price,
      )

  -- a fill and a regular close move results; any other entry moves cash alone, if that
  moves_step : (e : Said) → Passed (tests rule b e) → worth (effect_of rule b e) mk ≡ moved mk h (tells (phase_of h) e) (worth b mk)
  moves_step (fills order lots price) p = moves_fill order lots price p.1.0 (leb-true lots (order_by b order).count p.1.1.1.1.1.0)
  moves_step closes p = omega (arith, ints, closed_worth b.phase)
  moves_step e p = omega (arith, ints, market_worth e)

  pub value_step : (c : Books) (n : ℕ) (e : Said) → Passed (tests rule b e) → worth b mk ≡ summed mk h →
      worth (effect_of rule b e) mk ≡ summed mk (event rule b e (taken n) c ∷ h)
  value_step c n e p v = omega (arith, ints, v, moves_step e p)

-- a declined entry adds nothing
pub value_same : (rule : Meaning) (h : List Event) (b c : Books) (k short : ℕ) (e : Said) (mk : List ℕ → ℕ) (v : ℤ) → v ≡ summed mk h →
    v ≡ summed mk (event rule b e (declined k short) c ∷ h)
value_same rule h b c k short e mk v q = omega (arith, ints)
