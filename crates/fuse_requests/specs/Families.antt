-- Requests by what they are about.
--     family_of        of an operation
use Rattle.fuse_protocol.specs.declared.operation.Operation.{Operation}
use Rattle.fuse_protocol.specs.declared.operation.Operation.TheVariants.{Lookup, Forget, GetAttr, SetAttr, ReadLink, SymLink, MkNod, MkDir, Unlink, RmDir, Rename, Link, Open, Read, Write, Release, FSync, SetXAttr, GetXAttr, ListXAttr, RemoveXAttr, OpenDir, ReadDir, ReadDirPlus, ReleaseDir, Access, Create, Interrupt, BatchForget}
use Rattle.fuse_requests.specs.declared.family.Family.{Family}
use Rattle.fuse_requests.specs.declared.family.Family.TheVariants as families

abbrev pub family_of : Operation → Family
family_of (SymLink name target) = families.Making
family_of (MkNod name mode umask) = families.Making
family_of (MkDir name mode umask) = families.Making
family_of (Create name flags mode umask) = families.Making
family_of (Lookup name) = families.Naming
family_of (Unlink name) = families.Removing
family_of (RmDir name) = families.Removing
family_of (Rename name new_directory new_name flags) = families.Naming
family_of (Link node name) = families.Naming
family_of GetAttr = families.OnObject
family_of (SetAttr changes) = families.OnObject
family_of ReadLink = families.OnObject
family_of (Open flags) = families.OnObject
family_of OpenDir = families.OnObject
family_of (Access mask) = families.OnObject
family_of (SetXAttr name value) = families.OnAcl
family_of (GetXAttr name size) = families.OnAcl
family_of (ListXAttr size) = families.OnAcl
family_of (RemoveXAttr name) = families.OnAcl
family_of (Read extent) = families.ByHandle
family_of (Write handle offset bytes) = families.ByHandle
family_of (Release handle) = families.ByHandle
family_of (FSync handle) = families.ByHandle
family_of (ReadDir extent) = families.ByHandle
family_of (ReadDirPlus extent) = families.ByHandle
family_of (ReleaseDir handle) = families.ByHandle
family_of (Forget count) = families.Silent
family_of Interrupt = families.Silent
family_of (BatchForget batch) = families.Silent
family_of operation = families.OnWhole
