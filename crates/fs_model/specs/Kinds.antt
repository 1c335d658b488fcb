-- The kind of an object in three words: of its inode as it is stored, of what stat(2) shows, and of what access is decided on.
--     kind_of_type, type_of_kind, access_kind        from one word to another
use Rattle.std.specs.Prelude.{Option, None, Some}
use Rattle.fs_cred.specs.declared.node.NodeKind.{NodeKind}
use Rattle.fs_cred.specs.declared.node.NodeKind.TheVariants as nodes
use Rattle.fs_layout.specs.declared.inode.Kind.{Kind}
use Rattle.fs_layout.specs.declared.inode.Kind.TheVariants as kinds
use Rattle.fs_model.specs.declared.reply.FileType.{FileType}
use Rattle.fs_model.specs.declared.reply.FileType.TheVariants.{File, Directory, Link}

abbrev pub kind_of_type : FileType → Kind
kind_of_type File = kinds.File
kind_of_type Directory = kinds.Directory
kind_of_type Link = kinds.Link

-- a free inode holds nothing
abbrev pub type_of_kind : Kind → Option FileType
type_of_kind kinds.Free = None
type_of_kind kinds.File = Some File
type_of_kind kinds.Directory = Some Directory
type_of_kind kinds.Link = Some Link

-- access to a symbolic link is never decided
abbrev pub access_kind : FileType → Option NodeKind
access_kind File = Some nodes.File
access_kind Directory = Some nodes.Directory
access_kind Link = None
