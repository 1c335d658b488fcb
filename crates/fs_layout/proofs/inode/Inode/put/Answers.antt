use Rattle.std.proofs.Common.{refl, arith, ◌++◌, ◌≡◌, ◌∙◌, ℕ, ap, length, append_assoc, length-append}
use Rattle.fs_layout.specs.Bytes.{le16, le32, le64, le32s, zeros, splice}
use Rattle.fs_layout.proofs.Writes.{first_write, next_write, all_written, length-le32s, length-zeros}
use Rattle.fs_layout.proofs.inode.Inode.put.Goals as goal
use Rattle.fs_layout.specs.Inode.{kind_number}

pub returns : goal.returns
unfolding le16 le32 le64
returns c =
    let s = c.args.self.now in
    let old = c.args.to.now in
    let len : length (le32s s.direct) ≡ 48 = omega (arith, length-le32s s.direct) in
    let b0 = first_write old _ (le16 (kind_number s.kind)) (c.put_u16.ensures ∙ ap (λ (k : ℕ). splice old 0 (le16 k)) c.number.ensures) in
    let b1 = next_write old _ _ _ (le16 s.mode) 2 b0 refl c.put_u16-2.ensures in
    let b2 = next_write old _ _ _ (le32 s.uid) 4 b1 refl c.put_u32.ensures in
    let b3 = next_write old _ _ _ (le32 s.gid) 8 b2 refl c.put_u32-2.ensures in
    let b4 = next_write old _ _ _ (le32 s.names) 12 b3 refl c.put_u32-3.ensures in
    let b5 = next_write old _ _ _ (le64 s.size) 16 b4 refl c.put_u64.ensures in
    let b6 = next_write old _ _ _ (le32 s.parent) 24 b5 refl c.put_u32-4.ensures in
    let b7 = next_write old _ _ _ (le32 s.acl) 28 b6 refl c.put_u32-5.ensures in
    let b8 = next_write old _ _ _ (le32 s.default_acl) 32 b7 refl c.put_u32-6.ensures in
    let b9 = next_write old _ _ _ (le32s s.direct) 36 b8 refl c.put_u32s.ensures in
    let b10 = next_write old _ _ _ (le32s s.indirect) 84 b9 (omega (arith, len)) c.put_u32s-2.ensures in
    let all : length (le32s s.direct ++ le32s s.indirect) ≡ 60 =
    omega (arith, len, length-le32s s.indirect, length-append (le32s s.direct) (le32s s.indirect)) in
    let numbers = le32s s.direct ++ le32s s.indirect in
    let b11 = next_write old _ _ _ (le64 s.mtime) 96 b10 (omega (arith, all)) c.put_u64-2.ensures in
    let modified : length (numbers ++ le64 s.mtime) ≡ 68 = omega (arith, all, length-append numbers (le64 s.mtime)) in
    let b12 = next_write old _ _ _ (le64 s.ctime) 104 b11 (omega (arith, modified)) c.put_u64-3.ensures in
    let changed : length ((numbers ++ le64 s.mtime) ++ le64 s.ctime) ≡ 76 =
    omega (arith, modified, length-append (numbers ++ le64 s.mtime) (le64 s.ctime)) in
    let b13 = next_write old _ _ _ (le64 s.atime) 112 b12 (omega (arith, changed)) c.put_u64-4.ensures in
    let times = (numbers ++ le64 s.mtime) ++ le64 s.ctime in
    let read : length (times ++ le64 s.atime) ≡ 84 = omega (arith, changed, length-append times (le64 s.atime)) in
    let b14 = next_write old _ _ _ (zeros 8) 120 b13 (omega (arith, read)) c.put_zeros.ensures in
    all_written old _ _ b14
    (omega (arith, c.requires, read, length-append (times ++ le64 s.atime) (zeros 8), length-zeros 8))
    ∙ simp append_assoc
