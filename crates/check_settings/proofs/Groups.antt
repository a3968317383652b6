-- The three groups are the list of tests; what settings that pass a group are like; refusal 2, branch by branch.
use mathlib.Core.Path.{◌≡◌, refl, sym, ◌∙◌}
use mathlib.Core.Bool.{Bool, true, false, cond, not, ◌||◌}
use mathlib.Core.List.{List, []}
use Prim.Native.Nat.{ℕ, ◌/◌, ◌^◌, ◌≤◌, ◌<◌}
use native.Mathlib.Omega.{arith}
use native.Mathlib.Nat.{mul-le-mul}
use lib.Dec.{leb, ltb}
use lib.ListN.{length, take}
use borrow.Author.Tests.{not-true, not-false, leb-false, ltb-true, ltb-false, le-leb, lt-leb}
use Rattle.laws.specs.Define.{any_of, bit, bits_below, refusal}
use Rattle.laws.proofs.Tests.{or_assoc, or_no}
use Rattle.laws.proofs.Search.{any_none}
use Rattle.laws.proofs.SetBits.{bits_within}
use Rattle.floor.specs.declared.Settings.{Settings}
use Rattle.floor.specs.Settings.{total, spacing, span, hoppers_of, size_tests, measure_tests, settings_tests, settings_refusal}
use Rattle.check_settings.specs.InternalGroups.{sizes_wrong, sets_wrong, measures_wrong, rules_wrong}

-- ---- the three groups are the list of tests
pick_or : {A : Type 0} (a b : Bool) (x y : A) → cond a x (cond b x y) ≡ cond (a || b) x y
pick_or true b x y = refl
pick_or false b x y = refl

pub sizes_first : (s : Settings) (l : List (Bool × ℕ)) → refusal (size_tests s l) ≡ cond (sizes_wrong s) 1 (refusal l)
unfolding refusal sizes_wrong any_of
sizes_first s l = simp (pick_or, or_no) refl

refusal_groups : (s : Settings) → settings_refusal s ≡ cond (sizes_wrong s) 1 (cond (sets_wrong s) 2 (cond (measures_wrong s) 3 0))
unfolding settings_refusal settings_tests refusal sizes_wrong sets_wrong measures_wrong any_of
refusal_groups s = simp (pick_or, or_no) refl

module _ (s : Settings) (a : Bool) (p : a ≡ sizes_wrong s) where
  pub settings_1 : a ≡ true → 1 ≡ settings_refusal s
  settings_1 e = rw (refusal_groups s, sym p, e)

  module _ (e : a ≡ false) (b : Bool) (q : b ≡ sets_wrong s) where
    pub settings_2 : b ≡ true → 2 ≡ settings_refusal s
    settings_2 f = rw (refusal_groups s, sym p, e, sym q, f)

    module _ (f : b ≡ false) (c : Bool) (r : c ≡ measures_wrong s) where
      pub settings_3 : c ≡ true → 3 ≡ settings_refusal s
      settings_3 g = rw (refusal_groups s, sym p, e, sym q, f, sym r, g)

      pub settings_0 : c ≡ false → 0 ≡ settings_refusal s
      settings_0 g = rw (refusal_groups s, sym p, e, sym q, f, sym r, g)

-- ---- each group as the code tests it
pub sizes_are : (s : Settings) → (ltb s.columns 1 || (ltb 8 s.columns || (ltb s.rows 1 || (ltb 8 s.rows || ltb (total s) 2)))) ≡ sizes_wrong s
unfolding sizes_wrong any_of
sizes_are s = simp (or_no) refl

pub rules_are : (s : Settings) (d : ℕ) → d ≡ spacing s → (ltb s.width 2 || (ltb 60000 s.width || (ltb s.travel 1 || (leb s.length s.travel || leb s.width d)))) ≡ rules_wrong s
unfolding rules_wrong any_of
rules_are s d e = rw e (simp (or_no) refl)

measures_are : (s : Settings) → (rules_wrong s || ltb 3 (span s / spacing s)) ≡ measures_wrong s
unfolding rules_wrong measures_wrong any_of
measures_are s = simp (or_assoc, or_no) refl

-- ---- what settings that pass the first group are like
pub few_tiles : (s : Settings) → sizes_wrong s ≡ false → total s ≤ 64
unfolding sizes_wrong
few_tiles s h =
    let p = any_none _ (size_tests s []) h in
    mul-le-mul (ltb-false 8 s.columns p.1.0) (ltb-false 8 s.rows p.1.1.1.0)

-- ---- what the rules say before the division; refusal 3, branch by branch
rules_length : (s : Settings) → rules_wrong s ≡ false → (0 < s.length) × (s.length < s.width)
unfolding rules_wrong
rules_length s h =
    let p = any_none _ (take 5 (measure_tests s)) h in
    let slow : s.travel < s.length = leb-false s.length s.travel p.1.1.1.0 in
    let short : spacing s < s.width = leb-false s.width (spacing s) p.1.1.1.1.0 in
    (omega arith, omega arith)

module _ (s : Settings) (b : Bool) (p : b ≡ rules_wrong s) where
  pub rules_broken : b ≡ true → true ≡ measures_wrong s
  rules_broken e = rw (sym (measures_are s), sym p, e)

  module _ (e : b ≡ false) where
    pub rules_short : s.length ≤ s.width
    rules_short = omega (arith, rules_length s (sym p ∙ e))

    pub rules_apart : (d : ℕ) → d ≡ spacing s → 0 < d
    rules_apart d q = omega (arith, q, rules_length s (sym p ∙ e))

    pub rules_kept : (d : ℕ) → d ≡ spacing s → ltb 3 (span s / d) ≡ measures_wrong s
    rules_kept d q = rw (q, sym (measures_are s), sym p, e)

-- ---- refusal 2, branch by branch
not_ltb : (m n : ℕ) → not (ltb m n) ≡ leb n m
not_ltb m n = go (ltb m n) refl
  where
    go : (b : Bool) → ltb m n ≡ b → not b ≡ leb n m
    go true e = sym (lt-leb n m (ltb-true m n e))
    go false e = sym (le-leb n m (ltb-false m n e))

module _ (s : Settings) (w : Bool) (p : w ≡ ltb s.hoppers (2 ^ total s)) where
  pub hoppers_off : not w ≡ true → true ≡ sets_wrong s
  unfolding sets_wrong any_of
  hoppers_off h = rw (le-leb (2 ^ total s) s.hoppers (ltb-false s.hoppers (2 ^ total s) (sym p ∙ not-true w h)))

  pub hoppers_on : not w ≡ false → sizes_wrong s ≡ false → (n : ℕ) (own on : Bool) → n ≡ length (bits_below s.hoppers 64) → own ≡ any_of (bit s.sources) (bits_below s.hoppers 64)
      → on ≡ ltb s.sources (2 ^ total s) → (ltb n 1 || (ltb 4 n || (own || not on))) ≡ sets_wrong s
  unfolding sets_wrong hoppers_of any_of
  hoppers_on h few n own on e q r =
      let l : s.hoppers < 2 ^ total s = ltb-true s.hoppers (2 ^ total s) (sym p ∙ not-false w h) in
      rw (e, q, r, bits_within s.hoppers (total s) 64 (few_tiles s few) l, lt-leb (2 ^ total s) s.hoppers l, not_ltb s.sources (2 ^ total s), or_no)
