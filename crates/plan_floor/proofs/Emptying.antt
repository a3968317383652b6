-- A floor whose canisters all stand on tiles with a live path is empty after demand 3's bound: a canister never leaves these tiles but for a hopper.
use mathlib.Core.Path.{◌≡◌, refl, sym, ap, ◌∙◌, subst, fun_ext}
use mathlib.Core.Logic.{◌⊎◌, inl, inr}
use mathlib.Core.Bool.{Bool, true, false, cond}
use mathlib.Core.List.{List, [], map}
use Prim.Native.Nat.{ℕ, zero, suc, ◌+◌, ◌-◌, ◌*◌, ◌≤◌, ◌<◌}
use native.Mathlib.Omega.{arith}
use native.Mathlib.Nat.{mul-le-mul_left}
use native.Mathlib.Decide.{dec_le}
use lib.ListN.{length, length-append, length-map}
use Rattle.laws.specs.Define.{cat, sum}
use Rattle.laws.proofs.Tests.{by_test}
use Rattle.laws.proofs.Lists.{no_length, sum_const, sum_find, sum_part, cat_empty}
use Rattle.floor.specs.declared.Canister.{Canister}
use Rattle.floor.specs.declared.Settings.{Settings}
use Rattle.floor.specs.Settings.{total}
use Rattle.floor.specs.Model.{Model, runs_of_of, members_of, numbers, numbers_on}
use Rattle.floor.specs.Calls.{after_round}
use Rattle.floor.specs.Bound.{crossing, bound}
use Rattle.floor.specs.Live.{connected, connected_count}
use Rattle.floor.proofs.Sound.{Sound}
use Rattle.floor.proofs.Nearest.{routable}
use Rattle.floor.proofs.Paths.{live_iff}
use Rattle.floor.proofs.Fields.{round_settings, round_runs, round_last}
use Rattle.floor.proofs.Kept.{round_sound}
use Rattle.floor.proofs.Progress.{weight_falls}
use Rattle.floor.proofs.Clearing.{rounds, rounds_settings, same_live, cleared}

-- ---- rounds leave what runs, and the last number
pub rounds_runs : (n : ℕ) (m : Model) → Sound m → runs_of_of (rounds n m) ≡ runs_of_of m
unfolding rounds
rounds_runs zero m S = refl
rounds_runs (suc n) m S = rounds_runs n (after_round m) (round_sound m S) ∙ fun_ext (round_runs m S.len)

pub rounds_last : (n : ℕ) (m : Model) → (rounds n m).counters.last ≡ m.counters.last
unfolding rounds
rounds_last zero m = refl
rounds_last (suc n) m = rounds_last n (after_round m) ∙ round_last m

-- ---- no canister stands on a tile without a live path
abbrev pub OnLive : Model → Type 0
OnLive m = (t : ℕ) → t < total m.settings → connected m.settings (runs_of_of m) t ≡ false → members_of m t ≡ []

module _ (m : Model) (S : Sound m) where
  abbrev live : ℕ → Bool
  live = connected m.settings (runs_of_of m)

  -- 1 on a tile without a live path
  mark : ℕ → ℕ
  mark t = cond (live t) 0 1

  abbrev marks : Model → ℕ → List ℕ
  marks n t = map (λ _. mark t) (members_of n t)

  falls : sum (cat (total m.settings) (marks (after_round m))) ≤ sum (cat (total m.settings) (marks m))
  unfolding mark
  falls = weight_falls m S mark (λ u M. omega (arith, ap (λ (b : Bool). cond {A = ℕ} b 0 1) (same_live m S u _ M.side M.runs M.ahead)))

  none_marked : OnLive m → (t : ℕ) → t < total m.settings → sum (marks m t) ≡ 0
  unfolding mark sum
  none_marked h t l = go (live t) refl
    where
      go : (b : Bool) → live t ≡ b → sum (map (λ _. cond b 0 1) (members_of m t)) ≡ 0
      go true e = omega (arith, sum_const 0 (members_of m t))
      go false e = ap (λ (x : List Canister). sum (map (λ _. 1) x)) (h t l e)

  no_marks : OnLive m → sum (cat (total m.settings) (marks m)) ≡ 0
  no_marks h = go (dec_le 1 (sum (cat (total m.settings) (marks m))))
    where
      go : Dec (1 ≤ sum (cat (total m.settings) (marks m))) → sum (cat (total m.settings) (marks m)) ≡ 0
      go (yes p) = let w = sum_find (total m.settings) (marks m) p in absurd (omega (arith, w.2, none_marked h w.0 w.1))
      go (no p) = omega arith

  same_connected : connected (after_round m).settings (runs_of_of (after_round m)) ≡ live
  same_connected = (λ i. connected (round_settings m i) (fun_ext (round_runs m S.len) i))

  round_live : OnLive m → OnLive (after_round m)
  unfolding mark
  round_live h t l e =
      let on : t < total m.settings = subst (λ (s : Settings). t < total s) (round_settings m) l in
      let off : live t ≡ false = sym (ap (λ (g : ℕ → Bool). g t) same_connected) ∙ e in
      let z : sum (marks (after_round m) t) ≤ 0 = omega (arith, sum_part (total m.settings) (marks (after_round m)) t on, falls, no_marks h) in
      let one : sum (map (λ _. 1) (members_of (after_round m) t)) ≤ 0 = subst (λ (b : Bool). sum (map (λ _. cond b 0 1) (members_of (after_round m) t)) ≤ 0) off z in
      no_length (members_of (after_round m) t) (omega (arith, sum_const 1 (members_of (after_round m) t)))

rounds_live : (n : ℕ) (m : Model) → Sound m → OnLive m → OnLive (rounds n m)
unfolding rounds
rounds_live zero m S h = h
rounds_live (suc n) m S h = rounds_live n (after_round m) (round_sound m S) (round_live m S h)

-- ---- an empty floor
pub all_empty : (m : Model) → ((t : ℕ) → t < total m.settings → members_of m t ≡ []) → numbers_on m ≡ []
unfolding numbers_on
all_empty m h = cat_empty (total m.settings) (λ t. numbers (members_of m t)) (λ t l. ap numbers (h t l))

-- at most one canister on live tiles: the bound with K = 1 suffices
bound_one : (s : Settings) (k n : ℕ) → k ≤ 1 → bound s 1 ≤ n → bound s k ≤ n
unfolding bound
bound_one s zero n h b = omega (arith, b, mul-le-mul_left (total s - 1) one)
  where
    one : 1 + 0 * crossing s ≤ 1 + 1 * crossing s
    one = omega arith
bound_one s (suc zero) n h b = b
bound_one s (suc (suc k)) n h b = absurd (omega arith)

pub emptied : (m : Model) → Sound m → OnLive m → connected_count m (runs_of_of m) ≤ 1 → (n : ℕ) → bound m.settings 1 ≤ n → numbers_on (rounds n m) ≡ []
emptied m S h one n b = all_empty (rounds n m) (λ t l. go t l (by_test (connected m.settings (runs_of_of m) t)))
  where
    go : (t : ℕ) → t < total (rounds n m).settings → (connected m.settings (runs_of_of m) t ≡ true) ⊎ (connected m.settings (runs_of_of m) t ≡ false) → members_of (rounds n m) t ≡ []
    go t l (inl e) = cleared m S n (bound_one m.settings (connected_count m (runs_of_of m)) n one b) t ((live_iff m.settings (runs_of_of m) (routable m S) t).1 e)
    go t l (inr e) = rounds_live n m S h t l (ap (λ (s : Settings). connected s (runs_of_of (rounds n m)) t) (rounds_settings n m) ∙ ap (λ (r : ℕ → Bool). connected m.settings r t) (rounds_runs n m S) ∙ e)

-- K is at most the number of canisters
parts_less : {A B : Type 0} (n : ℕ) (f : ℕ → List A) (g : ℕ → List B) → ((t : ℕ) → length (f t) ≤ length (g t)) → length (cat n f) ≤ length (cat n g)
unfolding cat
parts_less zero f g h = omega arith
parts_less (suc n) f g h = omega (arith, length-append (f n) (cat n f), length-append (g n) (cat n g), h n, parts_less n f g h)

pub count_upto : (m : Model) (r : ℕ → Bool) → connected_count m r ≤ length (numbers_on m)
unfolding connected_count numbers_on
count_upto m r = parts_less (total m.settings) (λ t. cond (connected m.settings r t) (members_of m t) []) (λ t. numbers (members_of m t)) (λ t. go t (connected m.settings r t))
  where
    go : (t : ℕ) (b : Bool) → length (cond b (members_of m t) []) ≤ length (numbers (members_of m t))
    go t true = omega (arith, length-map (members_of m t) (λ (c : Canister). c.number))
    go t false = omega arith
