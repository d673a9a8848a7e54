-- What a number of a macro is.
use Rattle.std.specs.Prelude.{◌<◌, ℤ}
use Rattle.std.specs.Int.Signed.{mag}

-- a signed number of 32 bits, from −2147483648 to 2147483647: `mag` is k of k, and k of −(k + 1)
abbrev pub Number : ℤ → Type 0
Number k = mag k < 2147483648
