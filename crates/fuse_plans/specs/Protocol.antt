-- The protocol's bytes, as plans have them.
--     IsValueOf        the ACL that an attribute's value says
--     Hears        the bytes of a read, and what is known beside them, as a request
--     reply_of_body, response_bytes        what is replied, and what is written
--     HearsAll, responses_bytes        the same of several requests
use Rattle.std.specs.Prelude.{◌≡◌, ◌≢◌, ℕ, ◌+◌, ◌/◌, true, List, [], ◌∷◌, ◌++◌, Option, None, Some, Ok, Err}
use Rattle.posix_acl.specs.declared.entry.Entry.{Entry as AclEntry}
use Rattle.posix_acl.specs.AccessList.{AccessList, entries_of}
use Rattle.posix_acl.specs.Faults.{IsListOf}
use Rattle.fs_model.specs.declared.reply.FileType.{FileType}
use Rattle.fs_model.specs.declared.reply.FileType.TheVariants.{File, Directory, Link as LinkType}
use Rattle.fuse_protocol.specs.declared.operation.Operation.{Operation}
use Rattle.fuse_protocol.specs.declared.operation.Operation.TheVariants.{SetXAttr}
use Rattle.fuse_protocol.specs.declared.request.Request.{Request as WireRequest}
use Rattle.fuse_protocol.specs.declared.request.RequestFault.TheVariants as faults
use Rattle.fuse_protocol.specs.declared.reply.Attr.{Attr}
use Rattle.fuse_protocol.specs.declared.reply.FoundEntry.{FoundEntry}
use Rattle.fuse_protocol.specs.declared.reply.Reply.{Reply as WireReply}
use Rattle.fuse_protocol.specs.declared.reply.Reply.TheVariants as replies
use Rattle.fuse_protocol.specs.Requests.{request_of}
use Rattle.fuse_protocol.specs.Replies.{reply_bytes}
use Rattle.fuse_protocol.specs.AclValues.{IsAclValue, acl_value_bytes}
use Rattle.fuse_plans.specs.declared.reply.Attributes.{Attributes}
use Rattle.fuse_plans.specs.declared.reply.ReplyBody.{ReplyBody}
use Rattle.fuse_plans.specs.declared.reply.ReplyBody.TheVariants.{Nothing, Found, Absent, Shown, Opened, Created, Bytes, Wrote, Acl, Size, Space, Agreed}
use Rattle.fuse_plans.specs.declared.reply.Response.{Response}
use Rattle.fuse_plans.specs.declared.reply.Response.TheVariants.{Silence, Says, Fails}
use Rattle.fuse_plans.specs.Requests.{Outside, credential_for, Request}
use Rattle.fuse_plans.specs.RequestErrors.{error_number}

-- ---- requests

-- The bytes of a value say this ACL, or none; or they say no ACL.
abbrev pub IsValueOf : List ℕ → Option (Option AccessList) → Type 0
IsValueOf value (Some (Some acl)) = (es : List AclEntry) × IsAclValue value es × IsListOf es acl
IsValueOf value (Some None) = IsAclValue value []
IsValueOf value None = (es : List AclEntry) → IsAclValue value es → (es ≢ []) × ((acl : AccessList) → IsListOf es acl → ⊥)

abbrev pub HasValue : Operation → Option (Option AccessList) → Type 0
HasValue (SetXAttr name value) acl = IsValueOf value acl
HasValue _ acl = Unit {0}

-- one whose body is of its form
abbrev pub request_from : Outside → Option (Option AccessList) → WireRequest → Request
request_from outside acl r = record {
  unique = r.unique;
  node = r.node;
  uid = r.uid;
  cred = credential_for r.uid r.gid outside;
  now = outside.now;
  operation = Some r.operation;
  value = acl;
  memory = outside.memory;
}

-- one whose body isn't: its number alone counts
abbrev pub malformed : Outside → ℕ → Request
malformed outside unique = record {
  unique = unique;
  node = 0;
  uid = 0;
  cred = None;
  now = outside.now;
  operation = None;
  value = None;
  memory = outside.memory;
}

-- The bytes of a read, with what is known beside them, say this request; others end the server. Where memory is lacking a value
-- isn't looked at.
pub data Hears (bytes : List ℕ) (outside : Outside) : Request → Type 0 where
  says : (spoken : WireRequest) (acl : Option (Option AccessList)) → request_of bytes ≡ Ok spoken
      → (outside.memory ≡ true → HasValue spoken.operation acl) → Hears bytes outside (request_from outside acl spoken)
  says_badly : (unique : ℕ) → request_of bytes ≡ Err (faults.Malformed unique) → Hears bytes outside (malformed outside unique)

-- ---- replies

abbrev pub type_bits : FileType → ℕ
type_bits File = 0o100000
type_bits Directory = 0o040000
type_bits LinkType = 0o120000

-- blocks have 512 bytes, and 4,096 bytes are best moved at once
abbrev pub attr_of : Attributes → Attr
attr_of a = record {
  ino = a.status.ino;
  size = a.status.size;
  blocks = (a.status.size + 511) / 512;
  atime = a.times.atime;
  mtime = a.times.mtime;
  ctime = a.times.ctime;
  mode = type_bits a.status.kind + a.status.mode;
  links = a.status.links;
  uid = a.status.owner;
  gid = a.status.group;
  block_size = 4096;
}

-- what is told of an object that has a name
abbrev pub looked_up_entry : ℕ → ℕ → Attributes → FoundEntry
looked_up_entry node name_valid shown = record { node = node; name_valid = name_valid; valid = shown.valid; attr = attr_of shown }

abbrev pub reply_of_body : ReplyBody → WireReply
reply_of_body Nothing = replies.Done
reply_of_body (Found node name_valid a) = replies.Entry (looked_up_entry node name_valid a)
reply_of_body (Absent valid) = replies.Absent valid
reply_of_body (Shown a) = replies.Attr a.valid (attr_of a)
reply_of_body (Opened handle flags) = replies.Open handle flags
reply_of_body (Created node name_valid a handle flags) = replies.Created (looked_up_entry node name_valid a) handle flags
reply_of_body (Bytes bytes) = replies.Bytes bytes
reply_of_body (Wrote count) = replies.Count count
reply_of_body (Acl acl) = replies.Bytes (acl_value_bytes (entries_of acl))
reply_of_body (Size size) = replies.Count size
reply_of_body (Space blocks free inodes free_inodes max_name) = replies.StatFs (record {
  blocks = blocks;
  free_blocks = free;
  inodes = inodes;
  free_inodes = free_inodes;
  block_size = 512;
  max_name = max_name;
})
reply_of_body (Agreed terms) = replies.Init terms

-- what is written for the answer to the request with this number: nothing, or one reply
abbrev pub response_bytes : ℕ → Response → List ℕ
response_bytes unique Silence = []
response_bytes unique (Says body) = reply_bytes unique (reply_of_body body)
response_bytes unique (Fails e) = reply_bytes unique (replies.Error (error_number e))

-- ---- sessions

-- Reads of these bytes, with what is known beside them, are these requests.
pub data HearsAll : List (List ℕ × Outside) → List Request → Type 0 where
  no_more : HearsAll [] []
  one_more : (bytes : List ℕ) (outside : Outside) (request : Request) (heard : List (List ℕ × Outside)) (requests : List Request)
      → Hears bytes outside request → HearsAll heard requests → HearsAll ((bytes, outside) ∷ heard) (request ∷ requests)

-- what is written for all of them
abbrev pub responses_bytes : List Request → List Response → List ℕ
responses_bytes (r ∷ rs) (response ∷ responses) = response_bytes r.unique response ++ responses_bytes rs responses
responses_bytes _ _ = []
