-- Octets that found no room yet.
use Rattle.std.specs.Prelude.{ℕ, List, [], ◌∷◌, ◌++◌, ◌≡◌, ◌<◌, ◌+◌, ◌-◌, ◌==◌, ◌&&◌, if◌then◌else◌, drop, get_or, nat_lt, replicate, take}
use Rattle.aes3_c.specs.declared.owed.Aes3Owed.{Aes3Owed}

-- stretches of equal octets, and how long each is
abbrev pub stretches : List ℕ → List ℕ → List ℕ
stretches (octet ∷ octets) (count ∷ counts) = replicate count octet ++ stretches octets counts
stretches (octet ∷ octets) [] = []
stretches [] counts = []

-- the octets that are still to be put
abbrev pub owed_in : Aes3Owed → List ℕ
owed_in o = stretches (take (o.len - o.first) (drop o.first o.octets)) (take (o.len - o.first) (drop o.first o.counts))

-- stretches of equal octets: how many, the octet of the last, and how long that is
pub record Stretched : Type 0 where
  pub many : ℕ
  pub last : ℕ
  pub long : ℕ

-- One octet more is in the last stretch, if that is of this octet and shorter than 4,294,967,295. Else it begins one.
abbrev pub with_octet : Stretched → ℕ → Stretched
with_octet s octet =
    if octet == s.last && nat_lt s.long 4294967295 then record { many = s.many; last = s.last; long = s.long + 1 }
    else record { many = s.many + 1; last = octet; long = 1 }

abbrev pub with_octets : Stretched → List ℕ → Stretched
with_octets s [] = s
with_octets s (octet ∷ octets) = with_octets (with_octet s octet) octets

-- the stretches of these octets; before the first octet none can be longer
abbrev pub stretched : List ℕ → Stretched
stretched octets = with_octets (record { many = 0; last = 0; long = 4294967295 }) octets

-- The stretches that are kept are those of the octets that are owed.
pub record HasFewest (o : Aes3Owed) : Type 0 where
  pub many : o.len ≡ (stretched (owed_in o)).many
  pub last : 0 < o.len → get_or o.octets (o.len - 1) 0 ≡ (stretched (owed_in o)).last
  pub long : 0 < o.len → get_or o.counts (o.len - 1) 0 ≡ (stretched (owed_in o)).long
  pub none : o.len ≡ 0 → owed_in o ≡ []
