-- The sets that the passes find are `reached` of the definitions, and a pass that changes nothing is followed by none that does.
use mathlib.Core.Path.{◌≡◌, refl, sym, ap, ◌∙◌, fun_ext}
use mathlib.Core.Bool.{Bool, false, ◌&&◌, ◌||◌}
use mathlib.Core.List.{List}
use Prim.Native.Nat.{ℕ, zero, suc, ◌+◌, ◌-◌, ◌^◌, ◌≤◌, ◌<◌}
use native.Mathlib.Omega.{arith}
use native.Mathlib.Decide.{dec_le}
use lib.ListN.{length, get_or}
use lib.Seq.{ext_get_or}
use lib.Bits.{bit_and, and_le_r}
use native.Mathlib.Nat.{lt_of_le_of_lt}
use borrow.Author.Tests.{lt-ltb}
use Rattle.laws.specs.Define.{tab, any_of, bit}
use Rattle.laws.proofs.Tests.{and_no}
use Rattle.laws.proofs.Tables.{tab_length, tab_at, tab_off, tab_same}
use Rattle.laws.proofs.SetBits.{bit_off, both_bit}
use Rattle.floor.specs.declared.Settings.{Settings}
use Rattle.floor.specs.Sides.{sides}
use Rattle.floor.specs.Settings.{total, is_hopper}
use Rattle.floor.specs.Grid.{neighbour}
use Rattle.floor.specs.Layouts.{set_below}
use Rattle.floor.specs.Live.{reached, connected}
use Rattle.floor.proofs.SoundLayouts.{below_bit}

-- a set made of what passes
pub made_bit : (p : ℕ → Bool) (n x : ℕ) → x ≡ set_below p n → (t : ℕ) → t < n → bit x t ≡ p t
made_bit p n x e t h = ap (λ (y : ℕ). bit y t) e ∙ below_bit p n t ∙ ap (λ (b : Bool). b && p t) (lt-ltb t n h)

module _ (s : Settings) where
  abbrev C : ℕ
  C = total s

  -- one pass more, from what was reached
  more : (ℕ → Bool) → List Bool → List Bool
  more run l = tab C (λ t. run t && (is_hopper s t || any_of (λ k. get_or l (neighbour s k t) false) sides))

  reached_more : (run : ℕ → Bool) (n : ℕ) → reached s run (suc n) ≡ more run (reached s run n)
  unfolding reached more
  reached_more run n = refl

  -- what runs beyond the floor does not matter
  reached_same : (p q : ℕ → Bool) → ((t : ℕ) → t < C → p t ≡ q t) → (n : ℕ) → reached s p n ≡ reached s q n
  unfolding reached
  reached_same p q h zero = tab_same C (λ t. is_hopper s t && p t) (λ t. is_hopper s t && q t) (λ t l. ap (λ (b : Bool). is_hopper s t && b) (h t l))
  reached_same p q h (suc n) =
      let e = reached_same p q h n in
      tab_same C (λ t. p t && (is_hopper s t || any_of (λ k. get_or (reached s p n) (neighbour s k t) false) sides)) (λ t. q t && (is_hopper s t || any_of (λ k. get_or (reached s q n) (neighbour s k t) false) sides))
      (λ t l. (λ i. h t l i && (is_hopper s t || any_of (λ k. get_or (e i) (neighbour s k t) false) sides)))

  pub connected_same : (p q : ℕ → Bool) → ((t : ℕ) → t < C → p t ≡ q t) → (t : ℕ) → connected s p t ≡ connected s q t
  unfolding connected
  connected_same p q h t = ap (λ (l : List Bool). get_or l t false) (reached_same p q h (C - 1))

  reached_length : (run : ℕ → Bool) (n : ℕ) → length (reached s run n) ≡ C
  unfolding reached
  reached_length run zero = tab_length C (λ t. is_hopper s t && run t)
  reached_length run (suc n) = tab_length C (λ t. run t && (is_hopper s t || any_of (λ k. get_or (reached s run n) (neighbour s k t) false) sides))

  -- ---- a pass that changes nothing
  module _ (run : ℕ → Bool) (n : ℕ) (e : reached s run (suc n) ≡ reached s run n) where
    rests : (k : ℕ) → reached s run (n + k) ≡ reached s run n
    rests zero = let z : n + 0 ≡ n = omega arith in ap (reached s run) z
    rests (suc k) =
        let z : n + suc k ≡ suc (n + k) = omega arith in
        ap (reached s run) z ∙ reached_more run (n + k) ∙ ap (more run) (rests k) ∙ sym (reached_more run n) ∙ e

    rests_at : (m : ℕ) → n ≤ m → reached s run m ≡ reached s run n
    rests_at m h = let z : m ≡ n + (m - n) = omega arith in ap (reached s run) z ∙ rests (m - n)

  -- ---- sets as bits
  -- the set x has the tiles from which at most n steps lead to a hopper, over the tiles of the set running
  abbrev pub Reaches : ℕ → ℕ → ℕ → Type 0
  Reaches running n x = (t : ℕ) → bit x t ≡ get_or (reached s (bit running) n) t false

  module _ (running : ℕ) (fits : running < 2 ^ C) where
    pub first_fits : bit_and s.hoppers running < 2 ^ C
    first_fits = lt_of_le_of_lt (and_le_r s.hoppers running) fits

    pub reaches_first : Reaches running 0 (bit_and s.hoppers running)
    unfolding reached is_hopper
    reaches_first t = both_bit s.hoppers running t ∙ go (dec_le (suc t) C)
      where
        go : Dec (t < C) → (bit s.hoppers t && bit running t) ≡ get_or (tab C (λ t. bit s.hoppers t && bit running t)) t false
        go (yes h) = sym (tab_at C (λ t. bit s.hoppers t && bit running t) t false h)
        go (no h) =
            ap (λ (b : Bool). bit s.hoppers t && b) (bit_off running C t fits (omega arith)) ∙ and_no (bit s.hoppers t)
            ∙ sym (tab_off C (λ t. bit s.hoppers t && bit running t) t false (omega arith))

    pub reaches_next : (n x r : ℕ) → Reaches running n x → ((t : ℕ) → bit r t ≡ (bit running t && (is_hopper s t || any_of (λ k. bit x (neighbour s k t)) sides))) → Reaches running (n + 1) r
    unfolding more
    reaches_next n x r X e t =
        e t ∙ ap (λ (g : ℕ → Bool). bit running t && (is_hopper s t || any_of g sides)) (fun_ext (λ k. X (neighbour s k t)))
        ∙ go (dec_le (suc t) C) ∙ sym (ap (λ (l : List Bool). get_or l t false) (ap (reached s (bit running)) add_one' ∙ reached_more (bit running) n))
      where
        add_one' : n + 1 ≡ suc n
        add_one' = omega arith

        flag : ℕ → Bool
        flag t = bit running t && (is_hopper s t || any_of (λ k. get_or (reached s (bit running) n) (neighbour s k t) false) sides)

        go : Dec (t < C) → flag t ≡ get_or (tab C flag) t false
        go (yes h) = sym (tab_at C flag t false h)
        go (no h) =
            ap (λ (b : Bool). b && (is_hopper s t || any_of (λ k. get_or (reached s (bit running) n) (neighbour s k t) false) sides)) (bit_off running C t fits (omega arith))
            ∙ sym (tab_off C flag t false (omega arith))

    -- the same set before and after a pass: it has all tiles with a live path
    pub reaches_all : (n m x : ℕ) → Reaches running n x → Reaches running (n + 1) x → n ≤ m → Reaches running m x
    reaches_all n m x X Y h t =
        let z : n + 1 ≡ suc n = omega arith in
        let same : reached s (bit running) (suc n) ≡ reached s (bit running) n =
        ext_get_or false (reached s (bit running) (suc n)) (reached s (bit running) n) (reached_length (bit running) (suc n) ∙ sym (reached_length (bit running) n))
        (λ i l. ap (λ (k : ℕ). get_or (reached s (bit running) k) i false) (sym z) ∙ sym (Y i) ∙ X i) in
        X t ∙ ap (λ (l : List Bool). get_or l t false) (sym (rests_at (bit running) n same m h))

    -- after C - 1 passes, over the tiles that run
    pub reaches_connected : (run : ℕ → Bool) → ((t : ℕ) → t < C → bit running t ≡ run t) → (m x : ℕ) → m ≡ C - 1 → Reaches running m x → (t : ℕ) → bit x t ≡ connected s run t
    unfolding connected
    reaches_connected run h m x e X t = X t ∙ ap (λ (k : ℕ). get_or (reached s (bit running) k) t false) e ∙ connected_same (bit running) run h t
