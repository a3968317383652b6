-- The text that the program prints, as its code makes it.
use mathlib.Core.Path.{◌≡◌, sym, ap, ◌∙◌}
use mathlib.Core.Logic.{◌≢◌}
use mathlib.Core.Bool.{true, false}
use mathlib.Core.List.{List, [], ◌∷◌}
use Prim.Native.Nat.{ℕ, ◌+◌, ◌/◌, ◌%◌, ◌≤◌, ◌<◌}
use native.Mathlib.Omega.{arith}
use lib.Dec.{eqb}
use borrow.Author.Tests.{lt-ltb, le-ltb, eq-eqb, ne_eqb}
use lib.ListN.{length, take, drop, set}
use lib.Seq.{take-append_seam}
use Rattle.image_bytes.specs.InternalPut.{put}
use Rattle.floor.specs.Memory.{view}
use Rattle.floor.specs.Well.{well_formed}
use Rattle.image.specs.declared.Written.{Written}
use Rattle.image.specs.Image.{load_answer}
use Rattle.image.proofs.Promises.{loaded_well}
use Rattle.floor.specs.declared.Answer.{Answer}
use Rattle.page_call.specs.Page.{page, page_answer, paged}
use Rattle.page_call.proofs.Writing.{page_size, page_small, page_whole}
use Rattle.page.specs.Printed.{decimal, refused_text, printed}

-- ---- a refusal's line
abbrev pub line : List ℕ → List ℕ
line l = 114 ∷ 101 ∷ 102 ∷ 117 ∷ 115 ∷ 101 ∷ 100 ∷ 32 ∷ l

-- what the code writes of it, with n below ten and from ten on: d is the text after the word
pub line_one : (d : List ℕ) (n : ℕ) → 3 ≤ length d → n < 10 → take 10 (set (set (line d) 8 (48 + n)) 9 10) ≡ refused_text n
unfolding refused_text decimal
line_one [] n l h = absurd (omega arith)
line_one (a ∷ []) n l h = absurd (omega arith)
line_one (a ∷ b ∷ d) n l h = rw (lt-ltb n 10 h)

pub line_two : (d : List ℕ) (n : ℕ) → 3 ≤ length d → 10 ≤ n → take 11 (set (set (set (line d) 8 (48 + n / 10)) 9 (48 + n % 10)) 10 10) ≡ refused_text n
unfolding refused_text decimal
line_two [] n l h = absurd (omega arith)
line_two (a ∷ []) n l h = absurd (omega arith)
line_two (a ∷ b ∷ []) n l h = absurd (omega arith)
line_two (a ∷ b ∷ c ∷ d) n l h = rw (le-ltb n 10 h)

-- what was put to the front is there
put_front_is : (s t xs : List ℕ) (k : ℕ) → k ≡ length xs → t ≡ put s 0 xs → take k t ≡ xs
unfolding put
put_front_is s t xs k e p = rw (p, e) (take-append_seam xs (drop (0 + length xs) s))

-- ---- what the code made of the answer r: the line of a refusal, or the page; t is the text s after it
module _ (xs s t : List ℕ) (r : Answer) (e : r ≡ load_answer xs) (room : 528 ≤ length s) (kept : length t ≡ length s) where
  pub tell_refused : (k : ℕ) → r.refusal ≢ 0 → (k ≤ 11) × (take k t ≡ refused_text r.refusal) → (k ≤ length t) × (take k t ≡ printed xs)
  unfolding printed
  tell_refused k n q =
      let few = q.0 in
      let d : eqb (load_answer xs).refusal 0 ≡ false = rw e at (ne_eqb r.refusal 0 n) in
      (omega arith, q.1 ∙ rw (e, d))

  pub tell_page : (w : Written) → r.refusal ≡ 0 → (w ≡ page_answer r.floor (length s)) × (t ≡ paged r.floor s)
      → (w.length ≤ length t) × (take w.length t ≡ printed xs)
  unfolding printed
  tell_page w z q =
      let f = r.floor in
      let well : well_formed f ≡ true = rw e (loaded_well xs (ap (λ (a : Answer). a.refusal) (sym e) ∙ z)) in
      let h : length (page (view f)) ≤ length s = omega (arith, page_size f well, page_small f well) in
      let whole = page_whole f s well h in
      let n : w.length ≡ length (page (view f)) = ap (λ (a : Written). a.length) (q.0 ∙ sym whole.0) in
      let d : eqb (load_answer xs).refusal 0 ≡ true = rw e at (eq-eqb r.refusal 0 z) in
      (omega (arith, n, h), put_front_is s t (page (view f)) w.length n (q.1 ∙ sym whole.1) ∙ rw (e, d))
