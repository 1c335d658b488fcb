-- Numbers of an inode that is saved with other ACLs.
use Rattle.std.proofs.Common.{◌≡◌, ◌≢◌, ℕ, ◌+◌, ◌*◌, ◌/◌, ◌^◌, ◌<◌, ◌≤◌, true, ◌&&◌, nat_le, nat_eq, refl, sym, ap, ◌∙◌, arith}
use Rattle.std.proofs.lemmas.Bool.{and_parts, leb-true}
use Rattle.std.proofs.lemmas.Bool.Decides.{nat_tests}
use Rattle.fs_layout.specs.declared.inode.Kind.{Kind}
use Rattle.fs_layout.specs.declared.inode.Kind.TheVariants.{Free, File, Directory, Link}
use Rattle.fs_layout.specs.declared.inode.Inode.{Inode}
use Rattle.fs_layout.specs.Inode.{FitsInode, inode_fits, numbers_fit}
use Rattle.fs_layout.proofs.UsedInodes.{used_fits, blocks_fit, times_fit}

-- a mode with other low bits
abbrev pub with_low_bits : ℕ → ℕ → ℕ
with_low_bits mode bits = 512 * (mode / 512) + bits

-- the mode stays in the range of its kind, but that of a link
low_bits_fit : (kind : Kind) (mode size bits : ℕ) → bits < 512 → kind ≢ Link → numbers_fit kind mode size ≡ true
    → numbers_fit kind (with_low_bits mode bits) size ≡ true
low_bits_fit Free mode size bits small ne fits = refl
low_bits_fit File mode size bits small ne fits = grind (arith, nat_tests)
low_bits_fit Directory mode size bits small ne fits = grind (arith, nat_tests)
low_bits_fit Link mode size bits small ne fits = absurd (ne refl)

-- an inode with a mode of its kind's range and other sectors for its ACLs
pub with_acls_fits : (v : Inode) (mode access default : ℕ) → FitsInode v → v.kind ≢ Free → numbers_fit v.kind mode v.size ≡ true → mode < 2 ^ 16
    → access < 2 ^ 32 → default < 2 ^ 32 → FitsInode (record v { mode = mode; acl = access; default_acl = default })
unfolding inode_fits
with_acls_fits v mode access default fits used numbers small a d =
    used_fits used numbers small fits.uid fits.gid fits.names fits.size fits.parent a d (blocks_fit fits) (times_fit fits)

-- so with the permission bits of an ACL
pub with_bits_fits : (v : Inode) (bits access default : ℕ) → FitsInode v → v.kind ≢ Free → v.kind ≢ Link → bits < 512
    → access < 2 ^ 32 → default < 2 ^ 32 → FitsInode (record v { mode = with_low_bits v.mode bits; acl = access; default_acl = default })
unfolding inode_fits
with_bits_fits v bits access default fits used no_link small a d =
    with_acls_fits v (with_low_bits v.mode bits) access default fits used (low_bits_fit v.kind v.mode v.size bits small no_link fits.valid.numbers)
    (let m = fits.mode in omega (arith, m, small)) a d

-- and with the mode that it had
pub with_mode_fits : (v : Inode) (access default : ℕ) → FitsInode v → v.kind ≢ Free → access < 2 ^ 32 → default < 2 ^ 32
    → FitsInode (record v { acl = access; default_acl = default })
unfolding inode_fits
with_mode_fits v access default fits used a d = with_acls_fits v v.mode access default fits used fits.valid.numbers fits.mode a d

-- an empty inode is no link
pub empty_no_link : (v : Inode) → FitsInode v → v.size ≡ 0 → v.kind ≢ Link
unfolding inode_fits
empty_no_link v fits none link =
    let numbers : numbers_fit Link v.mode v.size ≡ true = sym (ap (λ (k : Kind). numbers_fit k v.mode v.size) link) ∙ fits.valid.numbers in
    let first = (and_parts (nat_eq v.mode 0o777 && nat_le 1 v.size) (nat_le v.size 512) numbers).0 in
    let some : 1 ≤ v.size = leb-true 1 v.size (and_parts (nat_eq v.mode 0o777) (nat_le 1 v.size) first).1 in
    omega (arith, some, none)
