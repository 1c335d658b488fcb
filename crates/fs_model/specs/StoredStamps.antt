-- What an inode keeps of times.
--     stamps_in        the times that an inode holds
use Rattle.fs_layout.specs.declared.inode.Inode.{Inode}
use Rattle.fs_model.specs.declared.reply.Stamps.{Stamps}

unfoldable pub stamps_in : Inode → Stamps
stamps_in v = record { atime = v.atime; mtime = v.mtime; ctime = v.ctime }
