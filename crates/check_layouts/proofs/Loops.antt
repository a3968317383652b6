-- What holds at the head of the loop over the eight places, from the last.
use mathlib.Core.Path.{◌≡◌, sym, ap, ◌∙◌}
use mathlib.Core.Bool.{true, false}
use mathlib.Core.List.{List, [], ◌∷◌, ◌++◌}
use mathlib.Core.List.{append_assoc, append-nil}
use Prim.Native.Nat.{ℕ, suc, ◌<◌}
use native.Mathlib.Omega.{arith}
use lib.ListN.{length, get_or, length-append}
use lib.Seq.{get_or-append_seam}
use Rattle.laws.specs.Define.{all_below}
use Rattle.floor.specs.declared.Layout.{Layout}
use Rattle.floor.specs.declared.Settings.{Settings}
use Rattle.floor.specs.Memory.{zero_layout}
use Rattle.floor.specs.Well.{name_at, place_ok, place_test}
use Rattle.check_layouts.proofs.Tests.{last_name, place_tested, Passed, passed_turn, passed_all, one_fails}

-- the places of `rest` are still to be tested
pub record PlacesPassed (s : Settings) (layouts rest : List Layout) (above : ℕ) : Type 0 where
  pub behind : List Layout
  pub split : layouts ≡ rest ++ behind
  pub size : length layouts ≡ 8
  pub named : above ≡ name_at layouts (length rest)
  pub passed : Passed (place_test s layouts) (length rest)

pub places_start : (s : Settings) (layouts rest : List Layout) → length layouts ≡ 8 → rest ≡ layouts → PlacesPassed s layouts rest 0
places_start s layouts rest h e = record {
  behind = [];
  split = sym (append-nil rest ∙ e);
  size = h;
  named = last_name layouts h ∙ ap (name_at layouts) (sym long);
  passed = λ i a b. absurd (omega (arith, long));
}
  where
    long : length rest ≡ 8
    long = ap length e ∙ h

module _ (s : Settings) (layouts rest next : List Layout) (x : Layout) (above : ℕ) (e : rest ≡ next ++ (x ∷ [])) (p : PlacesPassed s layouts rest above) where
  long : length rest ≡ suc (length next)
  long = omega (arith, ap length e, length-append next (x ∷ []))

  whole : layouts ≡ next ++ (x ∷ p.behind)
  whole = p.split ∙ ap (λ r. r ++ p.behind) e ∙ append_assoc next (x ∷ []) p.behind

  within : length next < 8
  within = omega (arith, p.size, ap length whole, length-append next (x ∷ p.behind))

  this : get_or layouts (length next) zero_layout ≡ x
  this = ap (λ l. get_or l (length next) zero_layout) whole ∙ get_or-append_seam next x p.behind zero_layout

  test : place_ok s x above ≡ place_test s layouts (length next)
  test = ap (λ y. place_ok s y above) (sym this) ∙ place_tested s layouts (length next) (length rest) above long p.named

  pub places_more : place_ok s x above ≡ true → PlacesPassed s layouts next x.name
  places_more h = record {
    behind = x ∷ p.behind;
    split = whole;
    size = p.size;
    named = ap (λ (y : Layout). y.name) (sym this);
    passed = passed_turn (place_test s layouts) (length next) long p.passed (sym test ∙ h);
  }

  pub places_fail : place_ok s x above ≡ false → false ≡ all_below (place_test s layouts) 8
  places_fail h = one_fails (place_test s layouts) (length next) within (sym test ∙ h)

pub places_end : (s : Settings) (layouts rest : List Layout) (above : ℕ) → length rest ≡ 0 → PlacesPassed s layouts rest above → true ≡ all_below (place_test s layouts) 8
places_end s layouts rest above h p = passed_all (place_test s layouts) (length rest) h p.passed
