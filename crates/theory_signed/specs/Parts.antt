-- A number of ℤ as the difference of two naturals, and two small words on such numbers. All of them compute at literals.
use Rattle.std.specs.Prelude.{Bool, ◌&&◌, ℕ, suc, ◌+◌, ◌-◌, ℤ, pos, negsuc}
use Rattle.std.specs.Int.Signed.{le_z}

-- z where it is positive, else 0
abbrev pub up : ℤ → ℕ
up (pos n) = n
up (negsuc n) = 0

-- -z where z is negative, else 0
abbrev pub dn : ℤ → ℕ
dn (pos n) = 0
dn (negsuc n) = suc n

-- how far b is above a, 0 where it is not
abbrev pub gap : ℤ → ℤ → ℕ
gap a b = up b + dn a - (up a + dn b)

-- equality as a test
abbrev pub eq_z : ℤ → ℤ → Bool
eq_z a b = le_z a b && le_z b a
