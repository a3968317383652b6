-- What is promised of images: loading what was written, writing what was loaded, the longest image, and bytes missing or left over.
use mathlib.Core.Path.{◌≡◌, refl, sym, ap, ◌∙◌}
use mathlib.Core.Logic.{◌⊎◌, inl, inr, ◌≢◌}
use mathlib.Core.Bool.{Bool, true, false, cond, not, ◌&&◌}
use mathlib.Core.List.{List, [], ◌∷◌, ◌++◌}
use Prim.Native.Nat.{ℕ, ◌+◌, ◌≤◌, ◌<◌}
use native.Mathlib.Omega.{arith}
use native.Mathlib.Decide.{ℕ_discrete}
use lib.Dec.{ltb, eqb}
use borrow.Author.Tests.{eqb-true, eq-eqb, ne_eqb, le-ltb, lt-ltb, not-true, not-false}
use lib.ListN.{length, take, drop, length-append}
use lib.Seq.{take-append_seam, length-take-le}
use Rattle.laws.specs.Define.{bit, bits_below, any_of, refusal}
use Rattle.laws.proofs.Tests.{by_test, not_both, and_left, and_right, test_none}
use Rattle.image_bytes.specs.Bytes.{Bytes}
use Rattle.image_bytes.specs.InternalPut.{put}
use Rattle.floor.specs.declared.Floor.{Floor}
use Rattle.floor.specs.declared.Answer.{Answer}
use Rattle.floor.specs.Settings.{hoppers_of, settings_tests, settings_refusal}
use Rattle.floor.specs.Model.{Model}
use Rattle.floor.specs.Memory.{view, pack, zero_floor}
use Rattle.floor.specs.Well.{sound, well_formed}
use Rattle.floor.specs.Calls.{refusal_of, fresh_floor, fresh_answer}
use Rattle.floor.proofs.Well.{sound_fact}
use Rattle.floor.proofs.Pack.{well_sound}
use Rattle.floor.proofs.Capacity.{well_pack}
use Rattle.floor.proofs.FreshAndWidths.{fresh_well, pack_view_well}
use Rattle.image.specs.Image.{encode, length_in, model_in, record_fault, front_fault, fault, answer_by, all_named, records_refusal, records_answer, image_refusal, image_answer, standard, load_answer, write_refusal, write_answer, written}
use Rattle.image.proofs.Records.{or_else_none}
use Rattle.image.proofs.Sizes.{encode_size}
use Rattle.image.proofs.LoadedWrites.{written_again}
use Rattle.image.proofs.WrittenLoads.{Fits, leftover, fault_append, no_fault, read_back, fault_cut}
use Rattle.image.proofs.SoundFits.{sound_fits, sound_most}
use Rattle.image.proofs.Read.{view_read, well_read, sound_names}

-- ---- bytes as records: the number that they answer
pub load_none : (xs : List ℕ) → image_refusal xs ≡ 0 → (fault xs ≡ 0) × (sound (model_in xs) ≡ true)
unfolding image_refusal
load_none xs h =
    let o = or_else_none (fault xs) _ h in
    (o.0, not-false (sound (model_in xs)) (test_none (not (sound (model_in xs))) 12 [] (omega arith) o.1).0)

load_sound : (xs : List ℕ) → fault xs ≡ 0 → sound (model_in xs) ≡ true → image_refusal xs ≡ 0
unfolding image_refusal refusal
load_sound xs z s = rw (z, s)

load_fault : (xs : List ℕ) (k : ℕ) → fault xs ≡ k → k ≢ 0 → image_refusal xs ≡ k
unfolding image_refusal
load_fault xs k e n = rw (e, ne_eqb k 0 n)

load_floor : (xs : List ℕ) → image_refusal xs ≡ 0 → image_answer xs ≡ record { refusal = 0; floor = pack (model_in xs) }
unfolding image_answer answer_by
load_floor xs e = rw e

load_refused : (xs : List ℕ) (k : ℕ) → fault xs ≡ k → k ≢ 0 → image_answer xs ≡ record { refusal = k; floor = zero_floor }
unfolding image_answer answer_by
load_refused xs k e n = rw (load_fault xs k e n, ne_eqb k 0 n)

-- the number that writing answers where nothing stands against it
pub write_none : (f : Floor) (n : ℕ) → well_formed f ≡ true → length (encode (view f)) ≤ n → write_refusal f n ≡ 0
unfolding write_refusal refusal_of refusal
write_none f n w h = rw (w, le-ltb n (length (encode (view f))) h)

-- ---- "Zero bytes now load the standard floor, fresh"
pub standard_accepted : settings_refusal standard ≡ 0
unfolding standard settings_refusal settings_tests hoppers_of refusal bit bits_below any_of
standard_accepted = refl

pub standard_fresh : fresh_answer standard ≡ record { refusal = 0; floor = pack (fresh_floor standard) }
unfolding fresh_answer
standard_fresh = rw standard_accepted

pub standard_well : well_formed (fresh_answer standard).floor ≡ true
standard_well = fresh_well standard standard_accepted

pub empty_loads : load_answer [] ≡ fresh_answer standard
unfolding load_answer
empty_loads = refl

-- as the code asks
pub load_empty : (xs : List ℕ) → length xs ≡ 0 → fresh_answer standard ≡ load_answer xs
load_empty [] z = sym empty_loads
load_empty (x ∷ xs) z = absurd (omega arith)

-- whatever has a byte is read as records
pub load_some : (xs : List ℕ) → 0 < length xs → load_answer xs ≡ image_answer xs
unfolding load_answer
load_some [] h = absurd (omega arith)
load_some (x ∷ xs) h = refl

-- "Writing never yields an empty image"
pub never_empty : (m : Model) → 0 < length (encode m)
never_empty m = omega (arith, encode_size m)

pub written_some : (f : Floor) (n : ℕ) → (write_answer f n).refusal ≡ 0 → 0 < (write_answer f n).length
unfolding write_answer
written_some f n e = rw e (never_empty (view f))

-- "One byte is still 9": one, two or three, whatever they are
pub few_refused : (xs : List ℕ) → 0 < length xs → length xs < 4 → load_answer xs ≡ record { refusal = 9; floor = zero_floor }
unfolding fault front_fault record_fault refusal
few_refused xs z h =
    let e : ltb (length xs) (4 + length_in xs) ≡ true = lt-ltb (length xs) (4 + length_in xs) (omega arith) in
    load_some xs z ∙ load_refused xs 9 (rw e) (omega arith)

-- ---- a well-formed floor
module _ (f : Floor) (w : well_formed f ≡ true) where
  fits_here : Fits (view f)
  fits_here = sound_fits (view f) (well_sound f w)

  -- loading what was written gives the same floor
  pub written_loads : load_answer (encode (view f)) ≡ record { refusal = 0; floor = f }
  written_loads =
      let b : model_in (encode (view f)) ≡ view f = read_back (view f) fits_here in
      let s : sound (model_in (encode (view f))) ≡ true = rw b ((sound_fact (view f)).1 (well_sound f w)) in
      let p : pack (model_in (encode (view f))) ≡ f = rw b (pack_view_well f w) in
      load_some (encode (view f)) (never_empty (view f)) ∙ load_floor (encode (view f)) (load_sound (encode (view f)) (no_fault (view f) fits_here) s) ∙ rw p

  -- "The longest image is 8,908 bytes."
  pub image_most : length (encode (view f)) ≤ 8908
  image_most = sound_most (view f) (well_sound f w)

  -- every proper prefix of its image that has a byte is refused by 9
  pub prefix_refused : (n : ℕ) → 0 < n → n < length (encode (view f)) → load_answer (take n (encode (view f))) ≡ record { refusal = 9; floor = zero_floor }
  prefix_refused n z h =
      let l : length (take n (encode (view f))) ≡ n = length-take-le n (encode (view f)) (omega arith) in
      load_some (take n (encode (view f))) (omega (arith, l)) ∙ load_refused (take n (encode (view f))) 9 (fault_cut (view f) fits_here n h) (omega arith)

  -- and so is its image with any byte after it
  pub extension_refused : (y : ℕ) (ys : List ℕ) → load_answer (encode (view f) ++ (y ∷ ys)) ≡ record { refusal = 9; floor = zero_floor }
  unfolding leftover
  extension_refused y ys =
      let l : length (encode (view f) ++ (y ∷ ys)) ≡ length (encode (view f)) + length (y ∷ ys) = length-append (encode (view f)) (y ∷ ys) in
      load_some (encode (view f) ++ (y ∷ ys)) (omega (arith, l, never_empty (view f))) ∙ load_refused (encode (view f) ++ (y ∷ ys)) 9 (fault_append (view f) fits_here (y ∷ ys)) (omega arith)

-- ---- an accepted image
-- its floor is well formed
pub loaded_well : (xs : List ℕ) → (load_answer xs).refusal ≡ 0 → well_formed (load_answer xs).floor ≡ true
unfolding load_answer image_answer answer_by
loaded_well [] a = standard_well
loaded_well (x ∷ xs) a = ap (λ (r : Answer). well_formed r.floor) (load_floor (x ∷ xs) a) ∙ well_pack (model_in (x ∷ xs)) (load_none (x ∷ xs) a).1

-- "An accepted image, written again, gives the same bytes.": one that has bytes
module _ (xs : List ℕ) (some : 0 < length xs) (a : (load_answer xs).refusal ≡ 0) where
  accepted : image_refusal xs ≡ 0
  unfolding image_answer answer_by
  accepted = ap (λ (r : Answer). r.refusal) (sym (load_some xs some)) ∙ a

  loaded : (load_answer xs).floor ≡ pack (model_in xs)
  loaded = ap (λ (r : Answer). r.floor) (load_some xs some ∙ load_floor xs accepted)

  pub loaded_writes : Bytes xs → encode (view (load_answer xs).floor) ≡ xs
  loaded_writes b =
      let z = (load_none xs accepted).0 in
      rw (loaded, view_read xs z (sound_names (model_in xs) (load_none xs accepted).1)) (written_again xs b z)

  pub loaded_written : Bytes xs → (buffer : List ℕ) → length xs ≤ length buffer
      → (write_answer (load_answer xs).floor (length buffer) ≡ record { refusal = 0; length = length xs }) × (written (load_answer xs).floor buffer ≡ xs ++ drop (length xs) buffer)
  unfolding write_answer written
  loaded_written b buffer h = (rw (none, loaded_writes b), rw (none, loaded_writes b))
    where
      none : write_refusal (load_answer xs).floor (length buffer) ≡ 0
      none = write_none (load_answer xs).floor (length buffer) (loaded_well xs a) (rw (loaded_writes b) h)

-- "the one accepted image that doesn't come back"
pub empty_lost : encode (view (load_answer []).floor) ≢ []
empty_lost e = absurd (omega (arith, never_empty (view (load_answer []).floor), ap length e))

pub only_empty : (xs : List ℕ) → Bytes xs → (load_answer xs).refusal ≡ 0 → encode (view (load_answer xs).floor) ≢ xs → xs ≡ []
only_empty [] b a n = refl
only_empty (x ∷ xs) b a n = absurd (n (loaded_writes (x ∷ xs) (omega arith) a b))

-- ---- bytes as records, in the order of the code: the records first, then 12 of the floor in memory
records_none : (xs : List ℕ) → records_refusal xs ≡ 0 → (fault xs ≡ 0) × (all_named (model_in xs) ≡ true)
unfolding records_refusal
records_none xs h =
    let o = or_else_none (fault xs) _ h in
    (o.0, not-false (all_named (model_in xs)) (test_none (not (all_named (model_in xs))) 12 [] (omega arith) o.1).0)

records_load : (xs : List ℕ) → records_refusal xs ≢ 0 → records_refusal xs ≡ image_refusal xs
unfolding records_refusal image_refusal refusal
records_load xs n = go (by_test (all_named (model_in xs))) (by_test (sound (model_in xs))) (by_test (eqb (fault xs) 0))
  where
    go : (all_named (model_in xs) ≡ true) ⊎ (all_named (model_in xs) ≡ false) → (sound (model_in xs) ≡ true) ⊎ (sound (model_in xs) ≡ false) → (eqb (fault xs) 0 ≡ true) ⊎ (eqb (fault xs) 0 ≡ false)
        → cond (eqb (fault xs) 0) (cond (not (all_named (model_in xs))) 12 0) (fault xs) ≡ cond (eqb (fault xs) 0) (cond (not (sound (model_in xs))) 12 0) (fault xs)
    go a b (inr e) = rw e
    go (inl a) b (inl e) = absurd (n (rw (e, a)))
    go (inr a) (inr b) (inl e) = rw (a, b)
    go (inr a) (inl b) (inl e) = not_both (sound_names (model_in xs) b) a

load_refuses : (xs : List ℕ) → (records_answer xs).refusal ≢ 0 → records_answer xs ≡ image_answer xs
unfolding records_answer image_answer answer_by
load_refuses xs n = ap (λ (k : ℕ). answer_by k (model_in xs)) (records_load xs n)

load_accepts : (xs : List ℕ) → (records_answer xs).refusal ≡ 0 → well_formed (records_answer xs).floor ≡ true → records_answer xs ≡ image_answer xs
unfolding records_answer image_answer image_refusal answer_by refusal
load_accepts xs z w =
    let e : well_formed (pack (model_in xs)) ≡ true = rw z at w in
    let r = records_none xs z in
    rw (z, r.0, ← well_read xs r.0 r.1, e)

load_malformed : (xs : List ℕ) → (records_answer xs).refusal ≡ 0 → well_formed (records_answer xs).floor ≡ false → record { refusal = 12; floor = zero_floor } ≡ image_answer xs
unfolding records_answer image_answer image_refusal answer_by refusal
load_malformed xs z w =
    let e : well_formed (pack (model_in xs)) ≡ false = rw z at w in
    let r = records_none xs z in
    rw (r.0, ← well_read xs r.0 r.1, e)

-- as the code asks: r is what the records give, b whether its floor is well formed
pub load_12 : (xs : List ℕ) (r : Answer) (b : Bool) → r ≡ records_answer xs → b ≡ well_formed r.floor → (eqb r.refusal 0 && not b) ≡ true → record { refusal = 12; floor = zero_floor } ≡ image_answer xs
load_12 xs r b e q h =
    let z = eqb-true r.refusal 0 (and_left (eqb r.refusal 0) (not b) h) in
    load_malformed xs (ap (λ (a : Answer). a.refusal) (sym e) ∙ z) (ap (λ (a : Answer). well_formed a.floor) (sym e) ∙ sym q ∙ not-true b (and_right (eqb r.refusal 0) (not b) h))

pub load_other : (xs : List ℕ) (r : Answer) (b : Bool) → r ≡ records_answer xs → b ≡ well_formed r.floor → (eqb r.refusal 0 && not b) ≡ false → r ≡ image_answer xs
load_other xs r b e q h = go (ℕ_discrete r.refusal 0)
  where
    go : Dec (r.refusal ≡ 0) → r ≡ image_answer xs
    go (yes z) =
        let w : b ≡ true = not-false b (rw (eq-eqb r.refusal 0 z) at h) in
        e ∙ load_accepts xs (ap (λ (a : Answer). a.refusal) (sym e) ∙ z) (ap (λ (a : Answer). well_formed a.floor) (sym e) ∙ sym q ∙ w)
    go (no n) = e ∙ load_refuses xs (λ z. n (ap (λ (a : Answer). a.refusal) e ∙ z))

-- ---- writing, in the order of the code: 30, 13, then the bytes
pub write_malformed : (f : Floor) (buffer : List ℕ) → well_formed f ≡ false → (record { refusal = 30; length = 0 } ≡ write_answer f (length buffer)) × (buffer ≡ written f buffer)
unfolding write_answer written write_refusal refusal_of refusal
write_malformed f buffer w = (rw w, rw w)

pub write_short : (f : Floor) (buffer : List ℕ) → well_formed f ≡ true → length buffer < length (encode (view f)) → (record { refusal = 13; length = 0 } ≡ write_answer f (length buffer)) × (buffer ≡ written f buffer)
unfolding write_answer written write_refusal refusal_of refusal
write_short f buffer w h = (rw (w, lt-ltb (length buffer) (length (encode (view f))) h), rw (w, lt-ltb (length buffer) (length (encode (view f))) h))

pub write_whole : (f : Floor) (buffer : List ℕ) → well_formed f ≡ true → length (encode (view f)) ≤ length buffer
    → (record { refusal = 0; length = length (encode (view f)) } ≡ write_answer f (length buffer)) × (put buffer 0 (encode (view f)) ≡ written f buffer)
unfolding write_answer written put
write_whole f buffer w h =
    let e : write_refusal f (length buffer) ≡ 0 = write_none f (length buffer) w h in
    let z : 0 + length (encode (view f)) ≡ length (encode (view f)) = omega arith in
    (rw e, rw (e, z))

-- what writing left at the front of a buffer loads as the floor that was written
pub written_then_loads : (f : Floor) (w : well_formed f ≡ true) (buffer : List ℕ) → length (encode (view f)) ≤ length buffer
    → load_answer (take (write_answer f (length buffer)).length (written f buffer)) ≡ record { refusal = 0; floor = f }
unfolding write_answer written
written_then_loads f w buffer h =
    let e : write_refusal f (length buffer) ≡ 0 = write_none f (length buffer) w h in
    let front : take (length (encode (view f))) (encode (view f) ++ drop (length (encode (view f))) buffer) ≡ encode (view f) = take-append_seam (encode (view f)) (drop (length (encode (view f))) buffer) in
    rw (e, front) (written_loads f w)
