-- A record fed one hopper's counts has, in its closed windows and the open one, what that hopper's delivered counter rose by. The statement is specs/Rounds.
use mathlib.Core.Path.{◌≡◌, refl, sym, ap, ◌∙◌, subst}
use mathlib.Core.Logic.{◌⊎◌, inl, inr}
use mathlib.Core.Bool.{true, false}
use mathlib.Core.List.{List, [], ◌∷◌, map}
use Prim.Native.Nat.{ℕ, zero, suc, ◌+◌, ◌≤◌}
use native.Mathlib.Omega.{arith}
use lib.Dec.{leb}
use lib.ListN.{length, get_or, replicate, length-append}
use borrow.Author.Tests.{le-leb}
use Rattle.laws.specs.Define.{sum, refusal}
use Rattle.laws.specs.Every.{All}
use Rattle.laws.proofs.Lists.{all_imp, filter_all}
use Rattle.laws.proofs.Tests.{by_test}
use Rattle.floor.specs.declared.Delivery.{Delivery}
use Rattle.floor.specs.declared.Floor.{Floor}
use Rattle.floor.specs.declared.Report.{Report}
use Rattle.floor.specs.Memory.{view}
use Rattle.floor.specs.Well.{well_formed}
use Rattle.floor.specs.Calls.{no_delivery, delivery_of, round_answer, refusal_of, zero_report}
use Rattle.floor.specs.Reports.{listed, listed_at}
use Rattle.floor.specs.Demand3.{Call, book, anywhere, stop, repair, round, keep, forget, recall, list, outcome, reported_in, rounds_in}
use Rattle.floor.proofs.Pack.{well_sound}
use Rattle.floor.proofs.Fields.{delivered_to_lem}
use Rattle.floor.proofs.Deliveries.{delivered_few}
use Rattle.floor.proofs.Lists.{report_at, round_report, listed_all}
use Rattle.floor.proofs.Theorem.{demand3}
use Rattle.throughput.specs.Rate.{rate_of}
use Rattle.throughput.specs.Lists.{counted, windows, open_rounds_of, open_deliveries_of, record_after}
use Rattle.throughput.proofs.Promises.{feeds}
use Rattle.throughput_floor.specs.Rounds.{count_of, counts_in, Joined}

-- a round's count at hopper k is at most four, and how many numbers it lists there
abbrev Counts : Delivery → Type 0
Counts d = (d.count ≤ 4) × (length (listed d) ≡ d.count)

none_counts : (k : ℕ) → Counts (get_or (replicate 4 no_delivery) k no_delivery)
none_counts zero = (omega arith, refl)
none_counts (suc zero) = (omega arith, refl)
none_counts (suc (suc zero)) = (omega arith, refl)
none_counts (suc (suc (suc zero))) = (omega arith, refl)
none_counts (suc (suc (suc (suc k)))) = (omega arith, refl)

some_counts : (l : List ℕ) → length l ≤ 4 → Counts (delivery_of l)
unfolding delivery_of
some_counts l h = (h, ap length (listed_all l h))

zero_counts : (k : ℕ) → Counts (get_or zero_report.deliveries k no_delivery)
unfolding zero_report
zero_counts k = none_counts k

refused_report : (f : Floor) → well_formed f ≡ false → (round_answer f).report ≡ zero_report
unfolding round_answer refusal_of refusal
refused_report f w = rw w refl

-- on any floor
round_counts : (f : Floor) (k : ℕ) → Counts (get_or (round_answer f).report.deliveries k no_delivery)
round_counts f k = go (by_test (well_formed f))
  where
    go : (well_formed f ≡ true) ⊎ (well_formed f ≡ false) → Counts (get_or (round_answer f).report.deliveries k no_delivery)
    go (inl w) =
        let S = well_sound f w in
        subst Counts (sym (ap (λ (r : Report). get_or r.deliveries k no_delivery) (round_report f w) ∙ report_at (view f) S k)) (some_counts (delivered_to_lem (view f) k) (delivered_few (view f) S k))
    go (inr w) = subst (λ (r : Report). Counts (get_or r.deliveries k no_delivery)) (sym (refused_report f w)) (zero_counts k)

-- ---- the counts of a list of calls: at most four each, one for each round, and together as many as the numbers reported
abbrev Adds : Floor → List Call → ℕ → Type 0
Adds f cs k = All (λ n. n ≤ 4) (counts_in f cs k) × (length (counts_in f cs k) ≡ rounds_in cs) × (sum (counts_in f cs k) ≡ length (reported_in f cs k))

adds : (cs : List Call) (f : Floor) (k : ℕ) → Adds f cs k
unfolding counts_in count_of reported_in outcome listed_at sum
adds [] f k = (tt, refl, refl)
adds (book t c ∷ cs) f k = let i = adds cs (outcome f (book t c)).floor k in (i.0, omega (arith, i.1), i.2)
adds (anywhere t number ∷ cs) f k = let i = adds cs (outcome f (anywhere t number)).floor k in (i.0, omega (arith, i.1), i.2)
adds (stop t ∷ cs) f k = let i = adds cs (outcome f (stop t)).floor k in (i.0, omega (arith, i.1), i.2)
adds (repair t ∷ cs) f k = let i = adds cs (outcome f (repair t)).floor k in (i.0, omega (arith, i.1), i.2)
adds (keep name ∷ cs) f k = let i = adds cs (outcome f (keep name)).floor k in (i.0, omega (arith, i.1), i.2)
adds (forget name ∷ cs) f k = let i = adds cs (outcome f (forget name)).floor k in (i.0, omega (arith, i.1), i.2)
adds (recall name ∷ cs) f k = let i = adds cs (outcome f (recall name)).floor k in (i.0, omega (arith, i.1), i.2)
adds (list l ∷ cs) f k = let i = adds cs (outcome f (list l)).floor k in (i.0, omega (arith, i.1), i.2)
adds (round ∷ cs) f k =
    let i = adds cs (outcome f round).floor k in
    let c = round_counts f k in
    ((c.0, i.0), omega (arith, i.1), rw length-append (omega (arith, c.1, i.2)))

-- none of them is refused
all_counted : (l : List ℕ) → All (λ n. n ≤ 4) l → counted l ≡ l
unfolding counted
all_counted l h = filter_all (λ n. leb n 4) l (all_imp (λ n. n ≤ 4) (λ n. leb n 4 ≡ true) l (λ n. le-leb n 4) h)

pub joined : Joined
joined f w cs t k =
    let l = counts_in f cs k in
    let a = adds cs f k in
    let e = all_counted l a.0 in
    let p = feeds l in
    let d = demand3 f w cs t in
    let total : sum (windows l) + open_deliveries_of l ≡ length (reported_in f cs k) = subst (λ (m : List ℕ). sum (windows m) + open_deliveries_of m ≡ sum m) e p.total ∙ a.2 in
    record {
      counts = l;
      are_counts = refl;
      rounds = a.1;
      few = a.0;
      after = p.after ∙ ap (λ (m : List ℕ). record_after (windows m) (open_rounds_of m) (open_deliveries_of m)) e;
      closed_rates = p.closed_rates ∙ ap (λ (m : List ℕ). map rate_of (windows m)) e;
      rose = ap (λ (g : Floor). get_or g.counters.delivered k 0) (sym d.is_now) ∙ d.delivered k ∙ ap (λ (n : ℕ). get_or f.counters.delivered k 0 + n) (sym total);
    }
