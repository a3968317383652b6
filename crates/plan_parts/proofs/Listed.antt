-- The numbers that a report lists, put one after another.
use mathlib.Core.Path.{◌≡◌, refl, sym, ap, ◌∙◌}
use mathlib.Core.Bool.{Bool, false}
use mathlib.Core.List.{List, [], ◌∷◌, ◌++◌, map, append_assoc, append-nil}
use Prim.Native.Nat.{ℕ, zero, suc, ◌+◌, ◌≤◌, ◌<◌}
use native.Mathlib.Omega.{arith}
use native.Mathlib.Numerals.{add-one}
use lib.Dec.{ltb}
use lib.ListN.{length, get_or, set, take}
use lib.Seq.{take_all, take-suc, take-suc-set}
use borrow.Author.Tests.{ltb-false}
use Rattle.laws.specs.Define.{any_of, join}
use Rattle.laws.proofs.Tests.{or_off_left, or_off_right}
use Rattle.laws.proofs.Lists.{map_append}
use Rattle.laws.proofs.SetBits.{join_append}
use Rattle.floor.specs.declared.Delivery.{Delivery}
use Rattle.floor.specs.declared.Report.{Report}
use Rattle.floor.specs.Reports.{listed}
use Rattle.plan.specs.Plans.{numbers_in}

-- what would be read beyond the hoppers
abbrev pub zero_delivery : Delivery
zero_delivery = record { numbers = []; count = 0 }

-- one number more
pub put_turn : (items own : List ℕ) (m i : ℕ) (l : List ℕ) → m + i < length items → i < length own → take (m + i) items ≡ l ++ take i own
    → take (m + (i + 1)) (set items (m + i) (get_or own i 0)) ≡ l ++ take (i + 1) own
put_turn items own m i l h k e =
    let s : m + (i + 1) ≡ suc (m + i) = omega arith in
    rw (s, take-suc-set items (m + i) (get_or own i 0) h, e, add-one i, take-suc own i 0 k) (append_assoc l (take i own) (get_or own i 0 ∷ []))

-- ---- the lists of the first h hoppers
abbrev pub listed_upto : ℕ → List Delivery → List ℕ
listed_upto h ds = join (map listed (take h ds))

pub listed_none : (ds : List Delivery) (items : List ℕ) → take 0 items ≡ listed_upto 0 ds
unfolding join
listed_none ds items = refl

pub listed_turn : (ds : List Delivery) (h : ℕ) (now next : List ℕ) (m : ℕ) → h < length ds → take m now ≡ listed_upto h ds
    → take (m + (get_or ds h zero_delivery).count) next ≡ take m now ++ listed (get_or ds h zero_delivery)
    → take (m + (get_or ds h zero_delivery).count) next ≡ listed_upto (h + 1) ds
unfolding join
listed_turn ds h now next m k e q =
    q ∙ rw (e, add-one h, take-suc ds h zero_delivery k, map_append listed (take h ds) (get_or ds h zero_delivery ∷ []), join_append (map listed (take h ds)) (listed (get_or ds h zero_delivery) ∷ []))
    (ap (λ (l : List ℕ). listed_upto h ds ++ l) (sym (append-nil (listed (get_or ds h zero_delivery)))))

-- none of them lists more than four
pub four_each : (ds : List Delivery) → any_of (λ d. ltb 4 d.count) ds ≡ false → (h : ℕ) → (get_or ds h zero_delivery).count ≤ 4
unfolding any_of
four_each [] e h = omega arith
four_each (d ∷ ds) e zero = ltb-false 4 d.count (or_off_left (ltb 4 d.count) (any_of (λ d. ltb 4 d.count) ds) e)
four_each (d ∷ ds) e (suc h) = four_each ds (or_off_right (ltb 4 d.count) (any_of (λ d. ltb 4 d.count) ds) e) h

pub any_none : {A : Type 0} (p : A → Bool) (l : List A) → false ≡ any_of p (take 0 l)
unfolding any_of
any_none p l = refl

pub put_none : (items own : List ℕ) (m : ℕ) → take (m + 0) items ≡ take m items ++ take 0 own
put_none items own m = let e : m + 0 ≡ m = omega arith in rw (e, append-nil (take m items))

pub listed_all : (r : Report) → length r.deliveries ≡ 4 → listed_upto 4 r.deliveries ≡ numbers_in r
unfolding numbers_in
listed_all r h = ap (λ (ds : List Delivery). join (map listed ds)) (take_all 4 r.deliveries (omega arith))
