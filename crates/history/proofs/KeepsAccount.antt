-- Orders, fills, cash and phases keep the books sound while the market stays.
use Rattle.std.proofs.Common.{◌≡◌, ℕ, ◌+◌, ◌*◌, ◌<◌, ◌≤◌, Bool, true, false, List, [], ◌∷◌, ◌++◌, length, get_or, ℤ, refl, mul-le-mul_right, arith}
use Rattle.std.proofs.ByRecursion.{All-from_get_or}
use Rattle.std.proofs.lemmas.List.{length_push}
use Rattle.books.specs.declared.phase.Phase.{Phase}
use Rattle.books.specs.declared.phase.Call.{Call}
use Rattle.books.specs.declared.rows.Lots.{Lots}
use Rattle.books.specs.declared.rows.Order.{Order}
use Rattle.books.specs.declared.rows.Position.{Position}
use Rattle.books.specs.Limits.{most_orders, most_given, most_lines, most_lots_of_one, highest_worth}
use Rattle.books.specs.Lots.{all_lots, one_if, left}
use Rattle.books.specs.Market.{Market, contract_at, product_of, marks}
use Rattle.books.specs.Books.{Books, no_order, opens_lots, in_session}
use Rattle.books.specs.Figures.{results}
use Rattle.books.specs.Effects.{with_order, with_orders}
use Rattle.books.specs.Sound.{Sound, Each, Affordable, OrderFits, LineFits, NumbersRise, Held, Roomy, LotsCounted, BalanceFits, lots_moved, highest_surcharge, no_line}
use Rattle.history.proofs.Sums.{weigh-push, weigh-left_le, Shortens}
use Rattle.history.proofs.KeepsRows.{each_push}
use Rattle.history.proofs.KeepsOrders.{left_length, each_left, lots_within, numbers_left, numbers_push}
use Rattle.history.proofs.KeepsHeld.{held_left}
use Rattle.history.proofs.KeepsMoney.{Bounded, Priced, results_bounded, futures_affordable, moved_fits}

-- the books but for their market
pub record Account (m : Market) (cash : ℤ) (extra given : ℕ) (phase : Phase) (os : List (Lots Order)) (ls : List (Lots Position)) : Type 0 where
  pub orders_few : length os ≤ most_orders
  pub given_few : given ≤ most_given
  pub orders : Each no_order (OrderFits m given) os
  pub numbers : NumbersRise os
  pub idle : in_session phase ≡ false → length os ≡ 0
  pub lines : Each no_line (LineFits m) ls
  pub held : Held os ls
  pub room : Roomy os ls
  pub counted : LotsCounted given os ls
  pub balance : BalanceFits cash (lots_moved given os ls)
  pub surcharge : extra ≤ highest_surcharge

-- a row shortened still fits
pub shorter_order : (m : Market) (given : ℕ) → Shortens (OrderFits m given)
shorter_order m given x n h l k = let c = h.1.1 in (h.0, (l, omega arith), h.2, h.3)

pub shorter_line : (m : Market) → Shortens (LineFits m)
shorter_line m x n h l k = let c = h.1.1 in (h.0, (l, omega arith), h.2, h.3)

module _ (b : Books) (s : Sound b) where
  pub with_account : (balance : ℤ) (surcharge given : ℕ) (phase : Phase) (call : Call) (os : List (Lots Order)) (ls : List (Lots Position)) →
      Account b.market balance surcharge given phase os ls →
      Sound (record { balance = balance; surcharge = surcharge; given = given; phase = phase; call = call; market = b.market; orders = os; lines = ls })
  with_account balance surcharge given phase call os ls a = record {
    products_few = s.products_few;
    contracts_few = s.contracts_few;
    ticks = s.ticks;
    charges = s.charges;
    limits = s.limits;
    margins = s.margins;
    spots = s.spots;
    contracts = s.contracts;
    orders_few = a.orders_few;
    given_few = a.given_few;
    orders = a.orders;
    numbers = a.numbers;
    idle = a.idle;
    lines = a.lines;
    held = a.held;
    room = a.room;
    counted = a.counted;
    balance = a.balance;
    surcharge = a.surcharge;
  }

  -- the same orders and lines
  pub same_lots : (balance : ℤ) (phase : Phase) (call : Call) → BalanceFits balance (lots_moved b.given b.orders b.lines) →
      (in_session phase ≡ false → length b.orders ≡ 0) →
      Sound (record { balance = balance; surcharge = b.surcharge; given = b.given; phase = phase; call = call; market = b.market; orders = b.orders; lines = b.lines })
  same_lots balance phase call fits idle = with_account balance b.surcharge b.given phase call b.orders b.lines (record {
    orders_few = s.orders_few;
    given_few = s.given_few;
    orders = s.orders;
    numbers = s.numbers;
    idle = idle;
    lines = s.lines;
    held = s.held;
    room = s.room;
    counted = s.counted;
    balance = fits;
    surcharge = s.surcharge;
  })

  -- ---- prices
  pub affordable : (c price : ℕ) → c < length b.market.contracts → price ≤ (contract_at b.market c).ceiling → Affordable b.market c price
  affordable c price l h = omega (arith, mul-le-mul_right (product_of b.market c).tick h, (s.contracts c l).2.3)

  pub mark_affordable : (c : ℕ) → c < length b.market.contracts → Affordable b.market c (marks b.market c)
  mark_affordable c l = affordable c (marks b.market c) l (s.contracts c l).2.2

  pub lots_few : all_lots b.lines ≤ most_lines * most_lots_of_one
  lots_few =
      let each = All-from_get_or (λ (l : Lots Position). l.count ≤ most_lots_of_one) b.lines no_line (λ i l. (s.lines i l).1.1) in
      omega (arith, s.room, lots_within most_lots_of_one b.lines each)

  pub lines_bounded : Bounded (results b.market (marks b.market) b.lines) (all_lots b.lines * highest_worth)
  lines_bounded =
      results_bounded b.market (marks b.market) b.lines (All-from_get_or (Priced b.market (marks b.market)) b.lines no_line (λ i l.
      let f = s.lines i l in
      let x = (get_or b.lines i no_line).of in
      let within = futures_affordable b.market x.contract in
      (within (marks b.market x.contract) (mark_affordable x.contract f.0), within x.entry f.2)))

  -- ---- the same balance, where no lot was filled
  pub balance_kept : (given : ℕ) (os : List (Lots Order)) (ls : List (Lots Position)) →
      most_lots_of_one * b.given + all_lots os ≤ most_lots_of_one * given + all_lots b.orders →
      all_lots ls ≡ all_lots b.lines → BalanceFits b.balance (lots_moved given os ls)
  balance_kept given os ls h e = moved_fits b.balance (lots_moved b.given b.orders b.lines) (lots_moved given os ls) s.balance (omega arith)

  -- ---- an order more, and one less
  pub order_added : (o : Lots Order) → in_session b.phase ≡ true → OrderFits b.market (b.given + 1) o → o.of.number ≡ b.given + 1 →
      length b.orders < most_orders → b.given < most_given → Held (b.orders ++ o ∷ []) b.lines → Roomy (b.orders ++ o ∷ []) b.lines →
      Sound (with_order b o)
  order_added o on fits new few given held room =
      let os = b.orders in
      let w = weigh-push (λ o. 1) os o in
      let c = s.counted in
      let k = fits.1.1 in
      with_account b.balance b.surcharge (b.given + 1) b.phase b.call (os ++ o ∷ []) b.lines (record {
        orders_few = omega (arith, length_push os o);
        given_few = omega arith;
        orders = each_push no_order (OrderFits b.market (b.given + 1)) os o (λ i l. let f = s.orders i l in (f.0, f.1, (f.2.0, omega (arith, f.2.1)), f.3)) fits;
        numbers = numbers_push os o s.numbers (λ i l. omega (arith, (s.orders i l).2.1));
        idle = λ e. cc;
        lines = s.lines;
        held = held;
        room = room;
        counted = omega arith;
        balance = balance_kept (b.given + 1) (os ++ o ∷ []) b.lines (omega arith) refl;
        surcharge = s.surcharge;
      })

  pub order_cut : (p : Order → Bool) (k : ℕ) → in_session b.phase ≡ true → Sound (with_orders b (left p k b.orders))
  order_cut p k on =
      let os = b.orders in
      let w = weigh-left_le (λ o. 1) p k os in
      with_account b.balance b.surcharge b.given b.phase b.call (left p k os) b.lines (record {
        orders_few = omega (arith, left_length p k os, s.orders_few);
        given_few = s.given_few;
        orders = each_left no_order (OrderFits b.market b.given) (shorter_order b.market b.given) p k os s.orders;
        numbers = numbers_left p k os s.numbers;
        idle = λ e. cc;
        lines = s.lines;
        held = held_left os b.lines s.held p k;
        room = omega (arith, s.room, weigh-left_le (λ o. one_if (opens_lots o)) p k os);
        counted = omega (arith, s.counted);
        balance = balance_kept b.given (left p k os) b.lines (omega arith) refl;
        surcharge = s.surcharge;
      })
