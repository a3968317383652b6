-- The floor's places after sixteen of them, from place a on, were put in.
use mathlib.Core.Path.{◌≡◌, sym, ap, ◌∙◌}
use mathlib.Core.List.{List, ◌++◌}
use Prim.Native.Nat.{ℕ, ◌+◌, ◌-◌, ◌≤◌, ◌<◌}
use native.Mathlib.Omega.{arith}
use lib.ListN.{length, get_or, take, drop, get_or-append}
use lib.Seq.{get_or-take, length-take-le}
use Rattle.std.proofs.lemmas.List.{get_or-drop, get_or-append-add, length-drop}
use Rattle.std.proofs.lemmas.Slice.{take-put_mid_below, drop-put_mid}
use borrow.Rule.Slice.PartMut.{put_mid, post_of, same_len_mid}
use Rattle.floor.specs.declared.Canister.{Canister}
use Rattle.floor.specs.Memory.{zero_canister}

module _ (a : ℕ) (xs ys : List Canister) (few : a + 16 ≤ length xs) (all : length ys ≡ 16) where
  pub put_own : (i : ℕ) → i < 16 → get_or (put_mid a (a + 16 - a) xs ys) (a + i) zero_canister ≡ get_or ys i zero_canister
  put_own i h =
      ap (λ (n : ℕ). get_or (put_mid a (a + 16 - a) xs ys) (n + i) zero_canister) (sym (length-take-le a xs (omega (arith, few))))
      ∙ get_or-append-add (take a xs) (ys ++ post_of a (a + 16 - a) xs) i zero_canister ∙ get_or-append ys (post_of a (a + 16 - a) xs) zero_canister i (omega (arith, all, h))

  pub put_below : (i : ℕ) → i < a → get_or (put_mid a (a + 16 - a) xs ys) i zero_canister ≡ get_or xs i zero_canister
  put_below i h =
      sym (get_or-take a (put_mid a (a + 16 - a) xs ys) i zero_canister h) ∙ ap (λ (l : List Canister). get_or l i zero_canister) (take-put_mid_below a (a + 16 - a) xs ys a (omega arith) (omega (arith, few)))
      ∙ get_or-take a xs i zero_canister h

  pub put_above : (i : ℕ) → get_or (put_mid a (a + 16 - a) xs ys) (a + 16 + i) zero_canister ≡ get_or xs (a + 16 + i) zero_canister
  put_above i =
      sym (get_or-drop (a + 16) (put_mid a (a + 16 - a) xs ys) i zero_canister)
      ∙ ap (λ (l : List Canister). get_or l i zero_canister) (drop-put_mid a (a + 16 - a) xs ys (a + 16) (omega arith) (omega (arith, few)) (omega (arith, all)))
      ∙ get_or-drop (a + 16) xs i zero_canister

  pub put_length : length (put_mid a (a + 16 - a) xs ys) ≡ length xs
  put_length =
      let d : 16 ≤ length (drop a xs) = let e = length-drop a xs in omega (arith, few, e) in
      same_len_mid a (a + 16 - a) xs ys (all ∙ sym (let e = length-take-le (a + 16 - a) (drop a xs) (omega (arith, d)) in omega (arith, e)))
