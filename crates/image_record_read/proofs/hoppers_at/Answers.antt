use mathlib.Core.Path.{◌≡◌, sym, ap, ◌∙◌}
use mathlib.Core.Logic.{◌⊎◌, inl, inr, ◌≢◌}
use Prim.Native.Nat.{ℕ}
use native.Mathlib.Omega.{arith}
use lib.ListN.{length, drop}
use Rattle.image.specs.Image.{settings_in}
use Rattle.image_record_read.proofs.Refusals.{set_code, tile_code, room_20}
use Rattle.image_record_read.proofs.hoppers_at.Goals as goal

is-20 : (n : ℕ) → (n ≡ 20) ⊎ (n ≡ 28) → n ≢ 28 → n ≡ 20
is-20 n (inl e) h = e
is-20 n (inr e) h = absurd (h e)

pub returns-then-n-eq28 : goal.returns-then-n-eq28
returns-then-n-eq28 c =
    let g = c.args in
    c.read_at.ensures ∙ sym (ap (λ (n : ℕ). (settings_in n (drop g.at (g.s).now)).hoppers) c.if-n-eq28.true ∙ set_code (g.s).now g.at)

pub bounds-s-at : goal.bounds-s-at
bounds-s-at c =
    let S = c in
    omega (arith, room_20 S.args.at S.args.n _ S.requires.0 S.requires.1)

pub returns : goal.returns
returns c =
    let E = c in
    let S = E in
    let g = S.args in
    let r = room_20 g.at g.n (length (g.s).now) S.requires.0 S.requires.1 in
    let e = is-20 g.n S.requires.1 E.if-n-eq28.false in
    c.single.ensures ∙ sym (ap (λ (n : ℕ). (settings_in n (drop g.at (g.s).now)).hoppers) e ∙ tile_code (g.s).now g.at r)
