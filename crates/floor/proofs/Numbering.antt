-- "Tile number = column × H + row": the neighbours of the tile in column c and row r, by columns and rows.
use mathlib.Core.Path.{◌≡◌, refl, sym, ap, ◌∙◌, subst}
use mathlib.Core.Bool.{Bool, true, false, cond}
use Prim.Native.Nat.{ℕ, zero, suc, ◌+◌, ◌-◌, ◌*◌, ◌/◌, ◌%◌, ◌<◌}
use native.Mathlib.Omega.{arith}
use native.Mathlib.Nat.{suc-mul, mul-le-mul_right, div-lt_iff_lt-mul, div-add-mod', mod-lt}
use lib.Arith.{digits_lt, digits_div, digits_mod}
use lib.Dec.{leb, ltb}
use borrow.Author.Tests.{ltb-true, ltb-false, lt-ltb, le-ltb, le-leb, lt-leb}
use Rattle.floor.specs.declared.Settings.{Settings}
use Rattle.floor.specs.Settings.{total}
use Rattle.floor.specs.Grid.{neighbour}
use Rattle.floor.specs.Numbering.{number_of, TileNumbers}

module _ (s : Settings) where
  abbrev number : ℕ → ℕ → ℕ
  number = number_of s

  west : (c r : ℕ) → r < s.rows → neighbour s 1 (number c r) ≡ cond (leb 1 c) (number (c - 1) r) (total s)
  unfolding neighbour
  west zero r h = rw (lt-leb s.rows (0 * s.rows + r) (omega (arith, h))) refl
  west (suc c) r h =
      let e : leb s.rows (suc c * s.rows + r) ≡ true = le-leb s.rows (suc c * s.rows + r) (omega (arith, suc-mul c s.rows)) in
      let q : suc c * s.rows + r - s.rows ≡ c * s.rows + r = omega (arith, suc-mul c s.rows) in
      let one : leb 1 (suc c) ≡ true = le-leb 1 (suc c) (omega arith) in
      let down : suc c - 1 ≡ c = omega arith in
      rw (e, q, one, down) refl

  south : (c r : ℕ) → r < s.rows → neighbour s 2 (number c r) ≡ cond (leb 1 r) (number c (r - 1)) (total s)
  unfolding neighbour
  south c zero h = rw (digits_mod c h) refl
  south c (suc r) h =
      let q : c * s.rows + suc r - 1 ≡ c * s.rows + r = omega arith in
      let down : suc r - 1 ≡ r = omega arith in
      rw (digits_mod c h, q, down) refl

  north : (c r : ℕ) → r < s.rows → neighbour s 3 (number c r) ≡ cond (ltb (r + 1) s.rows) (number c (r + 1)) (total s)
  unfolding neighbour
  north c r h =
      let q : c * s.rows + r + 1 ≡ c * s.rows + (r + 1) = omega arith in
      rw (digits_mod c h, q) refl

  east : (c r : ℕ) → r < s.rows → neighbour s 4 (number c r) ≡ cond (ltb (c + 1) s.columns) (number (c + 1) r) (total s)
  unfolding neighbour
  east c r h = rw (q, go (ltb (c + 1) s.columns) refl) refl
    where
      q : c * s.rows + r + s.rows ≡ (c + 1) * s.rows + r
      q = omega (arith, suc-mul c s.rows)

      go : (b : Bool) → ltb (c + 1) s.columns ≡ b → ltb ((c + 1) * s.rows + r) (total s) ≡ b
      go true e = lt-ltb ((c + 1) * s.rows + r) (total s) (digits_lt (ltb-true (c + 1) s.columns e) h)
      go false e = le-ltb ((c + 1) * s.rows + r) (total s) (omega (arith, mul-le-mul_right s.rows (ltb-false (c + 1) s.columns e)))

  -- column and row of a tile
  each : (t : ℕ) → t < total s → (c : ℕ) × (r : ℕ) × (c < s.columns) × (r < s.rows) × (t ≡ number c r)
  each t h = go s.rows refl
    where
      go : (n : ℕ) → s.rows ≡ n → (c : ℕ) × (r : ℕ) × (c < s.columns) × (r < s.rows) × (t ≡ number c r)
      go zero e = absurd (omega (arith, subst (λ (x : ℕ). t < s.columns * x) e h))
      go (suc n) e =
          let pos : 0 < s.rows = omega (arith, e) in
          (t / s.rows, t % s.rows, (div-lt_iff_lt-mul pos).1 h, mod-lt t pos, sym (div-add-mod' t s.rows))

  -- one of each
  one : (c r d q : ℕ) → r < s.rows → q < s.rows → number c r ≡ number d q → (c ≡ d) × (r ≡ q)
  one c r d q h k e =
      (sym (digits_div c h) ∙ ap (λ (x : ℕ). x / s.rows) e ∙ digits_div d k, sym (digits_mod c h) ∙ ap (λ (x : ℕ). x % s.rows) e ∙ digits_mod d k)

pub numbered : TileNumbers
numbered s = record { at = λ c r h k. record { on_floor = digits_lt h k; west = west s c r k; south = south s c r k; north = north s c r k; east = east s c r k }; each = each s; one = one s }
