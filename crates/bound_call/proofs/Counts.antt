-- The canisters on the tiles of a set, as the code counts them in memory, are those on the tiles of the value; and the answer.
use mathlib.Core.Path.{◌≡◌, refl, sym, ap, ◌∙◌}
use mathlib.Core.Bool.{Bool, true, false, cond, not, ◌&&◌}
use mathlib.Core.List.{List, []}
use Prim.Native.Nat.{ℕ, suc, ◌+◌, ◌-◌, ◌^◌, ◌≤◌, ◌<◌}
use native.Mathlib.Omega.{arith}
use lib.ListN.{length, get_or, take, length-map}
use Rattle.std.proofs.lemmas.List.{get_or-take}
use Rattle.laws.specs.Define.{tab, all_below, sum, bit}
use Rattle.laws.proofs.Tests.{and_yes}
use Rattle.laws.proofs.Tables.{tab_same, below_at}
use Rattle.laws.proofs.SetBits.{sum_last, cat_length}
use Rattle.floor.specs.declared.Canister.{Canister}
use Rattle.floor.specs.declared.Tile.{Tile}
use Rattle.floor.specs.declared.Floor.{Floor}
use Rattle.floor.specs.Settings.{total}
use Rattle.floor.specs.Model.{TileState, no_tile_of, runs, runs_of_of, members_of, numbers}
use Rattle.floor.specs.Memory.{zero_tile, head_of, state_of, view, head}
use Rattle.floor.specs.Well.{well_formed}
use Rattle.floor.specs.Bound.{bound}
use Rattle.floor.specs.Live.{connected, connected_count}
use Rattle.floor.proofs.Rows.{view_at}
use Rattle.floor.proofs.Pack.{well_sound, well_few, well_head}
use Rattle.floor.proofs.Answers.{malformed}
use Rattle.layout_parts.specs.InternalPlaces.{ran_in}
use Rattle.bound.specs.declared.Bounded.{Bounded}
use Rattle.bound.specs.Answer.{numbers_where, connected_numbers, unconnected_numbers, bound_answer}
use Rattle.bound.proofs.Few.{few_on, count_numbers, count_all}
use Rattle.bound.proofs.Within.{bound_accepted}
use Rattle.bound_call.specs.Sets.{canisters_in}
use Rattle.bound_call.proofs.Passes.{connected_same}

-- ---- tile after tile
pub count_none : (ts : List Tile) (set : ℕ) → 0 ≡ canisters_in 0 ts set
unfolding canisters_in tab sum
count_none ts set = refl

pub count_turn : (ts : List Tile) (set t : ℕ) {n k : ℕ} → n ≡ canisters_in t ts set → k ≡ cond (bit set t) (get_or ts t zero_tile).count 0 → n + k ≡ canisters_in (t + 1) ts set
unfolding canisters_in
count_turn ts set t e q =
    let z : suc t ≡ t + 1 = omega arith in
    (λ i. e i + q i) ∙ sym (sum_last t (λ t. cond (bit set t) (get_or ts t zero_tile).count 0)) ∙ ap (λ (m : ℕ). canisters_in m ts set) z

-- tile t, of the first n
pub count_in : (ts : List Tile) (set n t : ℕ) {m k : ℕ} {b : Bool} → t < n → b ≡ bit set t → b ≡ true → k ≡ (get_or (take n ts) t zero_tile).count → m ≡ canisters_in t ts set → m + k ≡ canisters_in (t + 1) ts set
count_in ts set n t l e h q z = count_turn ts set t z (rw (sym e ∙ h) (q ∙ ap (λ (x : Tile). x.count) (get_or-take n ts t zero_tile l)))

pub count_out : (ts : List Tile) (set t : ℕ) {m : ℕ} {b : Bool} → b ≡ bit set t → b ≡ false → m ≡ canisters_in t ts set → m ≡ canisters_in (t + 1) ts set
count_out ts set t {m} e h z = let same : m ≡ m + 0 = omega arith in same ∙ count_turn ts set t z (rw (sym e ∙ h))

-- ---- the set of all tiles
all_in : all_below (bit (2 ^ 64 - 1)) 64 ≡ true
unfolding all_below bit
all_in = refl

-- the bits of the set of the other tiles
pub rest_bit : (every x r t : ℕ) → every ≡ 2 ^ 64 - 1 → t < 64 → ((k : ℕ) → bit r k ≡ (not (bit x k) && bit every k)) → bit r t ≡ not (bit x t)
rest_bit every x r t e h q =
    q t ∙ ap (λ (b : Bool). not (bit x t) && b) (ap (λ (y : ℕ). bit y t) e ∙ below_at (bit (2 ^ 64 - 1)) 64 all_in t h) ∙ and_yes (not (bit x t))

-- ---- memory and value
module _ (f : Floor) (w : well_formed f ≡ true) where
  abbrev C : ℕ
  C = total f.settings

  runs_on : (t : ℕ) → t < C → ran_in f.tiles t ≡ runs_of_of (view f) t
  unfolding state_of
  runs_on t h = sym (ap runs (view_at f t no_tile_of h))

  pub live_same : (t : ℕ) → connected f.settings (ran_in f.tiles) t ≡ connected f.settings (runs_of_of (view f)) t
  live_same = connected_same f.settings (ran_in f.tiles) (runs_of_of (view f)) runs_on

  count_on : (t : ℕ) → t < C → (head_of f t).count ≡ length (numbers (members_of (view f) t))
  unfolding head
  count_on t h =
      sym (ap (λ (x : Tile). x.count) (well_head f t w h)) ∙ sym (ap (λ (x : TileState). length x.members) (view_at f t no_tile_of h))
      ∙ sym (length-map (members_of (view f) t) (λ (c : Canister). c.number))

  -- the tiles of the set are those that pass
  count_where : (p : ℕ → Bool) (set : ℕ) → ((t : ℕ) → t < C → bit set t ≡ p t) → canisters_in C f.tiles set ≡ length (numbers_where (view f) p)
  unfolding canisters_in numbers_where view
  count_where p set h =
      ap sum (tab_same C (λ t. cond (bit set t) (head_of f t).count 0) (λ t. length (cond (p t) (numbers (members_of (view f) t)) [])) (λ t l. one t l (p t) (h t l)))
      ∙ sym (cat_length C (λ t. cond (p t) (numbers (members_of (view f) t)) []))
    where
      one : (t : ℕ) → t < C → (b : Bool) → bit set t ≡ b → cond (bit set t) (head_of f t).count 0 ≡ length (cond b (numbers (members_of (view f) t)) [])
      one t l true e = rw e (count_on t l)
      one t l false e = rw e

  module _ (live k : ℕ) (found : (t : ℕ) → bit live t ≡ connected f.settings (ran_in f.tiles) t) (counted : k ≡ canisters_in C f.tiles live) where
    pub k_is : k ≡ connected_count (view f) (runs_of_of (view f))
    unfolding connected_numbers view
    k_is = counted ∙ count_where (connected f.settings (runs_of_of (view f))) live (λ t _. found t ∙ live_same t) ∙ sym (count_numbers (view f) (runs_of_of (view f)))

    pub k_most : k ≤ 1008
    unfolding view
    k_most = omega (arith, k_is, few_on (view f) (well_sound f w), count_all (view f) (runs_of_of (view f)), well_few f w)

    module _ (every rest others : ℕ) (e : every ≡ 2 ^ 64 - 1) (left : (t : ℕ) → bit rest t ≡ (not (bit live t) && bit every t)) (rest-counted : others ≡ canisters_in C f.tiles rest) where
      others_are : others ≡ length (unconnected_numbers (view f) (runs_of_of (view f)))
      unfolding unconnected_numbers view
      others_are =
          rest-counted
          ∙ count_where (λ t. not (connected f.settings (runs_of_of (view f)) t)) rest
          (λ t l. rest_bit every live rest t e (omega (arith, well_few f w)) left ∙ ap not (found t ∙ live_same t))

      pub bound_found : (n : ℕ) → n ≡ bound f.settings k → ◌≡◌ {A = Bounded} (record { rounds = n; connected = k; unconnected = others; refusal = 0 }) (bound_answer f)
      bound_found n q =
          (λ i. record { rounds = (q ∙ ap (bound f.settings) k_is) i; connected = k_is i; unconnected = others_are i; refusal = 0 }) ∙ sym (bound_accepted f w)

pub bound_refused : (f : Floor) → false ≡ well_formed f → ◌≡◌ {A = Bounded} (record { rounds = 0; connected = 0; unconnected = 0; refusal = 30 }) (bound_answer f)
unfolding bound_answer
bound_refused f w = rw (malformed f [] (sym w))
