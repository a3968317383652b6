-- The tests of settings in groups, one for each refusal: whether some test of the group holds.
use Rattle.std.specs.Prelude.{Bool, List, [], ℕ, take}
use Rattle.laws.specs.Define.{any_of}
use Rattle.floor.specs.declared.Settings.{Settings}
use Rattle.floor.specs.Settings.{size_tests, set_tests, measure_tests}

abbrev pub wrong : List (Bool × ℕ) → Bool
wrong tests = any_of (λ x. x.0) tests

unfoldable pub sizes_wrong : Settings → Bool
sizes_wrong s = wrong (size_tests s [])

unfoldable pub sets_wrong : Settings → Bool
sets_wrong s = wrong (set_tests s [])

unfoldable pub measures_wrong : Settings → Bool
measures_wrong s = wrong (measure_tests s)

-- those of the measures before the division
unfoldable pub rules_wrong : Settings → Bool
rules_wrong s = wrong (take 5 (measure_tests s))
