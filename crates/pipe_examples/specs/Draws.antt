-- Own: numbers that are drawn, as a program in another language has them.
use Rattle.std.specs.Prelude.{◌≡◌}
use Rattle.pipe_spec.specs.Numbers.{next, drawn, behind}

abbrev pub FirstOfNone : Type 0
FirstOfNone = drawn 200 0 ≡ 7

abbrev pub SecondOfNone : Type 0
SecondOfNone = drawn 200 (next 0) ≡ 24

abbrev pub ThirdOfSeven : Type 0
ThirdOfSeven = drawn 64 (behind 7 2) ≡ 49

abbrev pub FourthOfTheLast : Type 0
FourthOfTheLast = drawn 64 (behind 18446744073709551615 3) ≡ 2

abbrev pub BehindFour : Type 0
BehindFour = behind 18446744073709551615 4 ≡ 7739682275686472611
