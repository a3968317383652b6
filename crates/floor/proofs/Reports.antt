-- Every round's report lists rising numbers, at most four, and zeros after them. The statement is specs/Reports.
use mathlib.Core.Path.{◌≡◌, refl, sym, ap, ◌∙◌, subst}
use mathlib.Core.List.Permᴰ
use mathlib.Core.List.{List, [], ◌∷◌, append-nil}
use Prim.Native.Nat.{ℕ, suc, ◌-◌, ◌≤◌, ◌<◌}
use native.Mathlib.Omega.{arith}
use native.Mathlib.Decide.{dec_le}
use lib.ListN.{length, get_or, drop, replicate, get_or-eq_default}
use Rattle.laws.specs.Define.{tab, cat}
use Rattle.laws.specs.Every.{All, Pairs}
use Rattle.laws.proofs.Tables.{tab_length}
use Rattle.floor.specs.declared.Report.{Report}
use Rattle.floor.specs.declared.Settings.{Settings}
use Rattle.floor.specs.Settings.{hoppers_of}
use Rattle.floor.specs.Model.{Model, numbers_on}
use Rattle.floor.specs.Memory.{view}
use Rattle.floor.specs.Calls.{after_round, delivered, delivery_of, no_delivery, report_of}
use Rattle.floor.specs.Reports.{Listing, Lists, Reports}
use Rattle.floor.proofs.Sound.{Sound}
use Rattle.floor.proofs.Pack.{well_sound}
use Rattle.floor.proofs.Rows.{view_settings}
use Rattle.floor.proofs.Fields.{delivered_to_lem, delivered_length}
use Rattle.floor.proofs.Deliveries.{delivered_few, delivered_rising}
use Rattle.floor.proofs.Calls.{round_keeps}
use Rattle.floor.proofs.Lists.{round_report, report_at, listed_all}
use Rattle.laws.proofs.Lists.{all_right, all_perm, cat_all}

-- zeros after the numbers
tail : (l : List ℕ) → length l ≤ 4 → drop (length l) (tab 4 (λ k. get_or l k 0)) ≡ replicate (4 - length l) 0
unfolding tab
tail [] h = refl
tail (a ∷ []) h = refl
tail (a ∷ b ∷ []) h = refl
tail (a ∷ b ∷ c ∷ []) h = refl
tail (a ∷ b ∷ c ∷ d ∷ []) h = refl
tail (a ∷ b ∷ c ∷ d ∷ e ∷ l) h = absurd (omega arith)

spare : delivery_of [] ≡ no_delivery
unfolding delivery_of tab
spare = refl

module _ (m : Model) (S : Sound m) where
  delivered_positive : (k : ℕ) → All (λ n. 0 < n) (delivered_to_lem m k)
  delivered_positive k = go (dec_le (suc k) 4)
    where
      P : ℕ → Type 0
      P n = 0 < n

      all : All P (cat 4 (delivered_to_lem m))
      all = all_right P (numbers_on (after_round m)) (cat 4 (delivered_to_lem m)) (all_perm P (Permᴰ.symm (round_keeps m S).nums) (subst (All P) (sym (append-nil (numbers_on m))) S.positive))

      go : Dec (k < 4) → All P (delivered_to_lem m k)
      go (yes h) = cat_all P 4 (delivered_to_lem m) k h all
      go (no h) = subst (All P) (sym (get_or-eq_default (delivered m) [] (omega (arith, delivered_length m S.len, S.measured.hoppers_few)))) tt

  listing : (k : ℕ) → Listing (delivery_of (delivered_to_lem m k))
  unfolding delivery_of
  listing k =
      let l = delivered_to_lem m k in
      let few = delivered_few m S k in
      record {
        few = few;
        rising = subst (Pairs (λ x y. x < y)) (sym (listed_all l few)) (delivered_rising m S k);
        none_zero = subst (All (λ n. 0 < n)) (sym (listed_all l few)) (delivered_positive k);
        zeros = tail l few;
      }

  four : length (report_of m).deliveries ≡ 4
  unfolding report_of
  four = tab_length 4 (λ k. delivery_of (get_or (delivered m) k []))

  lists : Lists (length (hoppers_of m.settings)) (report_of m).deliveries
  lists = record {
    four = four;
    each = λ k. subst Listing (sym (report_at m S k)) (listing k);
    beyond = λ k h. report_at m S k ∙ ap delivery_of (get_or-eq_default (delivered m) [] (omega (arith, delivered_length m S.len))) ∙ spare;
  }

pub reports : Reports
reports f w =
    subst (λ (r : Report). Lists (length (hoppers_of f.settings)) r.deliveries) (sym (round_report f w))
    (subst (λ (s : Settings). Lists (length (hoppers_of s)) (report_of (view f)).deliveries) (view_settings f) (lists (view f) (well_sound f w)))
