-- What the bytes of a request say.
use Rattle.std.specs.Prelude.{ℕ, ◌+◌, ◌-◌, ◌*◌, ◌==◌, nat_lt, List, length, take, drop, Option, Some, None, Result, Ok, Err, if◌then◌else◌}
use Rattle.fuse_protocol.specs.declared.operation.Operation.{Operation}
use Rattle.fuse_protocol.specs.declared.request.TheConstants.{HEADER_SIZE}
use Rattle.fuse_protocol.specs.declared.request.Request.{Request}
use Rattle.fuse_protocol.specs.declared.request.RequestFault.{RequestFault}
use Rattle.fuse_protocol.specs.declared.request.RequestFault.TheVariants.{NotWhole, Malformed}
use Rattle.fuse_protocol.specs.Bytes.{short_at, word_at, long_at}
use Rattle.fuse_protocol.specs.Operations.{operation_of}

-- The header: length, opcode, number of the request, node, who asks, the length of extensions in units of 8.
abbrev pub request_with : List ℕ → Option Operation → Result Request RequestFault
request_with s None = Err (Malformed (long_at s 8))
request_with s (Some operation) = Ok (record {
  unique = long_at s 8;
  node = long_at s 16;
  uid = word_at s 24;
  gid = word_at s 28;
  pid = word_at s 32;
  operation = operation;
})

-- the bytes between the header and the extensions
abbrev pub body_of : List ℕ → List ℕ
body_of s = take (length s - HEADER_SIZE - 8 * short_at s 36) (drop HEADER_SIZE s)

-- where the extensions fit
abbrev pub operation_in : List ℕ → Option Operation
operation_in s = if nat_lt (length s) (HEADER_SIZE + 8 * short_at s 36) then None else operation_of (word_at s 4) (body_of s)

unfoldable pub request_of : List ℕ → Result Request RequestFault
request_of s =
    if nat_lt (length s) HEADER_SIZE then Err NotWhole else
    (if word_at s 0 == length s then request_with s (operation_in s) else Err NotWhole)
