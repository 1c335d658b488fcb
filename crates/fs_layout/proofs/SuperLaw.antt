-- What is read of a superblock is spelled so, and what is spelled so is read.
use Rattle.std.proofs.Common.{◌≡◌, ℕ, zero, suc, ◌<◌, ◌^◌, List, ◌++◌, length, drop, refl, sym, ap, subst, ◌∙◌, arith, true, Result, Ok, Option, Some, None, nat_eq}
use Rattle.std.proofs.lemmas.Bool.{eqb-true}
use Rattle.fs_layout.specs.declared.superblock.Super.{Super}
use Rattle.fs_layout.specs.declared.fault.LayoutFault.{LayoutFault}
use Rattle.fs_layout.specs.declared.fault.LayoutFault.TheVariants.{BadMagic, NotZero}
use Rattle.fs_layout.specs.Bytes.{IsBytes, le32, zeros, u32_of, are_zero}
use Rattle.fs_layout.specs.declared.version.Version.{Version}
use Rattle.fs_layout.specs.declared.version.Version.TheVariants.{One, Two, Three}
use Rattle.fs_layout.specs.Version.{version_number, version_of}
use Rattle.fs_layout.specs.Superblock.{FitsSuper, numbers_end, super_bytes, super_magic, super_if, super_of}
use Rattle.fs_layout.proofs.Codecs.{IsCodec, held, same_ok}
use Rattle.fs_layout.proofs.Fields.{back32, zeros_back, zeros-are_zero, read32}
use Rattle.fs_layout.proofs.Small.{u32_small}

abbrev fields : Version → List ℕ → Super
fields version s = record { version = version; sectors = u32_of s 8; inodes = u32_of s 12; header = u32_of s 16 }

-- What stands behind the inodes: the number of header sectors and zeros, or zeros alone, where that number is 0.
record HasTail (version : Version) (s : List ℕ) : Type 0 where
  bytes : drop 16 s ≡ le32 (u32_of s 16) ++ zeros 492
  none : numbers_end version ≡ 16 → u32_of s 16 ≡ 0

first_four : zeros 496 ≡ le32 0 ++ zeros 492
unfolding le32 zeros
first_four = refl

zero_tail : (s : List ℕ) → length s ≡ 512 → are_zero (drop 16 s) ≡ true → (drop 16 s ≡ le32 (u32_of s 16) ++ zeros 492) × (u32_of s 16 ≡ 0)
zero_tail s len rest =
    let zeroes : drop 16 s ≡ le32 0 ++ zeros 492 = zeros_back s 16 496 (omega arith) rest ∙ first_four in
    let none : u32_of s 16 ≡ 0 = read32 s 16 0 (zeros 492) zeroes (omega arith) in
    (zeroes ∙ ap (λ (n : ℕ). le32 n ++ zeros 492) (sym none), none)

tail_read : (version : Version) (s : List ℕ) → length s ≡ 512 → IsBytes s → are_zero (drop (numbers_end version) s) ≡ true → HasTail version s
tail_read One s len small rest = let t = zero_tail s len rest in record { bytes = t.0; none = λ e. t.1 }
tail_read Two s len small rest = let t = zero_tail s len rest in record { bytes = t.0; none = λ e. t.1 }
tail_read Three s len small rest = record {
  bytes = back32 s 16 small (omega arith) ∙ ap (λ (r : List ℕ). le32 (u32_of s 16) ++ r) (zeros_back s 20 492 (omega arith) rest);
  none = λ e. absurd (omega (arith, e));
}

no_number : (header : ℕ) (s : List ℕ) → drop 16 s ≡ le32 header ++ zeros 492 → header ≡ 0 → are_zero (drop 16 s) ≡ true
unfolding le32 zeros
no_number header s tail none = ap are_zero (tail ∙ ap (λ (n : ℕ). le32 n ++ zeros 492) none) ∙ zeros-are_zero 496

tail_written : (version : Version) (header : ℕ) (s : List ℕ) → drop 16 s ≡ le32 header ++ zeros 492 → drop 20 s ≡ zeros 492 → (numbers_end version ≡ 16 → header ≡ 0)
    → are_zero (drop (numbers_end version) s) ≡ true
tail_written One header s tail end none = no_number header s tail (none refl)
tail_written Two header s tail end none = no_number header s tail (none refl)
tail_written Three header s tail end none = ap are_zero end ∙ zeros-are_zero 492

-- the bytes of the superblock that the fields of s are
spelled : (v : Version) (s : List ℕ) → length s ≡ 512 → IsBytes s → u32_of s 0 ≡ super_magic → u32_of s 4 ≡ version_number v
    → HasTail v s → s ≡ super_bytes (fields v s)
spelled v s len small magic version rest =
    let e0 : s ≡ le32 (u32_of s 0) ++ drop 4 s = back32 s 0 small (omega arith) in
    let e1 : drop 4 s ≡ le32 (u32_of s 4) ++ drop 8 s = back32 s 4 small (omega arith) in
    let e2 : drop 8 s ≡ le32 (u32_of s 8) ++ drop 12 s = back32 s 8 small (omega arith) in
    let e3 : drop 12 s ≡ le32 (u32_of s 12) ++ drop 16 s = back32 s 12 small (omega arith) in
    let tail : drop 8 s ≡ le32 (u32_of s 8) ++ (le32 (u32_of s 12) ++ (le32 (u32_of s 16) ++ zeros 492)) =
    e2 ∙ ap (λ (r : List ℕ). le32 (u32_of s 8) ++ r) (e3 ∙ ap (λ (r : List ℕ). le32 (u32_of s 12) ++ r) rest.bytes) in
    e0 ∙ ap (λ (n : ℕ). le32 n ++ drop 4 s) magic
    ∙ ap (λ (r : List ℕ). le32 super_magic ++ r) (e1 ∙ ap (λ (n : ℕ). le32 n ++ drop 8 s) version ∙ ap (λ (r : List ℕ). le32 (version_number v) ++ r) tail)

number_of_version : (n : ℕ) (v : Version) → version_of n ≡ Some v → n ≡ version_number v
number_of_version zero v e = absurd cc
number_of_version (suc zero) v e = let f : One ≡ v = cc in ap version_number f
number_of_version (suc (suc zero)) v e = let f : Two ≡ v = cc in ap version_number f
number_of_version (suc (suc (suc zero))) v e = let f : Three ≡ v = cc in ap version_number f
number_of_version (suc (suc (suc (suc n)))) v e = absurd cc

-- each version has a number of its own
version_known : (v : Version) → version_of (version_number v) ≡ Some v
version_known One = refl
version_known Two = refl
version_known Three = refl

number_small : (v : Version) → version_number v < 2 ^ 32
number_small One = omega arith
number_small Two = omega arith
number_small Three = omega arith

back_if : (o : Option Version) (s : List ℕ) (v : Super) → version_of (u32_of s 4) ≡ o → length s ≡ 512 → IsBytes s → u32_of s 0 ≡ super_magic
    → super_if o s ≡ Ok v → (s ≡ super_bytes v) × FitsSuper v
back_if None s v k len small magic e = absurd cc
back_if (Some version) s v k len small magic e =
    let good : Result Super LayoutFault = Ok (fields version s) in
    let c = held (are_zero (drop (numbers_end version) s)) good NotZero v e in
    let same : fields version s ≡ v = same_ok (fields version s) v good refl c.1 in
    let number : u32_of s 4 ≡ version_number version = number_of_version (u32_of s 4) version k in
    let tail : HasTail version s = tail_read version s len small c.0 in
    let fit : FitsSuper (fields version s) = record {
      sectors = u32_small s 8 small;
      inodes = u32_small s 12 small;
      header = u32_small s 16 small;
      no_header = tail.none;
    } in
    (spelled version s len small magic number tail ∙ ap super_bytes same, subst FitsSuper same fit)

back : (s : List ℕ) (v : Super) → length s ≡ 512 → IsBytes s → super_of s ≡ Ok v → (s ≡ super_bytes v) × FitsSuper v
unfolding super_of
back s v len small e =
    let a = held (nat_eq (u32_of s 0) super_magic) (super_if (version_of (u32_of s 4)) s) BadMagic v e in
    back_if (version_of (u32_of s 4)) s v refl len small (eqb-true (u32_of s 0) super_magic a.0) a.1

again : (v : Super) → FitsSuper v → super_of (super_bytes v) ≡ Ok v
unfolding super_of le32
again v f =
    let s = super_bytes v in
    let magic : u32_of s 0 ≡ super_magic = read32 s 0 super_magic (drop 4 s) refl (omega arith) in
    let n : u32_of s 4 ≡ version_number v.version = read32 s 4 (version_number v.version) (drop 8 s) refl (number_small v.version) in
    let version : version_of (u32_of s 4) ≡ Some v.version = ap version_of n ∙ version_known v.version in
    let sectors : u32_of s 8 ≡ v.sectors = read32 s 8 v.sectors (drop 12 s) refl f.sectors in
    let inodes : u32_of s 12 ≡ v.inodes = read32 s 12 v.inodes (drop 16 s) refl f.inodes in
    let header : u32_of s 16 ≡ v.header = read32 s 16 v.header (drop 20 s) refl f.header in
    let rest : are_zero (drop (numbers_end v.version) s) ≡ true = tail_written v.version v.header s refl refl f.no_header in
    rw (magic, version) (rw (sectors, inodes, header, rest) refl)

pub super_codec : IsCodec 512 FitsSuper super_bytes super_of
super_codec = record { back = back; again = again }

-- a superblock's spelling fills a sector
pub length-super_bytes : (v : Super) → length (super_bytes v) ≡ 512
unfolding le32 zeros
length-super_bytes v = refl
