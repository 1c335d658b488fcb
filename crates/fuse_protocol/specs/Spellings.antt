-- What is spelled is what is read: numbers and names wherever they stand, and headers.
--     AreReadBack        a number that stands behind a front as its bytes is the one that is read there
--     Header, request_bytes        a header's numbers, and a request of them, a body and extensions
--     request_of_parts        what such a request says
use Rattle.std.specs.Prelude.{◌≡◌, ℕ, ◌+◌, ◌*◌, ◌<◌, ◌^◌, List, [], ◌∷◌, ◌++◌, length, Option, Some, None, Result, Ok, Err}
use Rattle.fuse_protocol.specs.declared.operation.Operation.{Operation}
use Rattle.fuse_protocol.specs.declared.request.Request.{Request}
use Rattle.fuse_protocol.specs.declared.request.RequestFault.{RequestFault}
use Rattle.fuse_protocol.specs.declared.request.RequestFault.TheVariants.{Malformed}
use Rattle.fuse_protocol.specs.declared.request.TheConstants.{HEADER_SIZE}
use Rattle.fuse_protocol.specs.Bytes.{bytes_of_u16s, bytes_of_u32s, bytes_of_u64s}
use Rattle.fuse_protocol.specs.Names.{IsFileName, name_from}
use Rattle.fuse_protocol.specs.Operations.{operation_of}
use Rattle.fuse_protocol.specs.Requests.{request_of}

abbrev pub AreReadBack : ℕ → (List ℕ → List ℕ) → (List ℕ → ℕ → ℕ) → Type 0
AreReadBack bits bytes number =
    (front rest : List ℕ) (x : ℕ) → x < 2 ^ bits → number (front ++ (bytes (x ∷ []) ++ rest)) (length front) ≡ x

abbrev pub NamesAreReadBack : Type 0
NamesAreReadBack = (front name rest : List ℕ) → IsFileName name → name_from (front ++ (name ++ 0 ∷ rest)) (length front) ≡ Some name

-- the extensions are counted in units of 8 bytes
pub record Header : Type 0 where
  pub opcode : ℕ
  pub unique : ℕ
  pub node : ℕ
  pub uid : ℕ
  pub gid : ℕ
  pub pid : ℕ
  pub units : ℕ

pub record FitsHeader (h : Header) (body extensions : List ℕ) : Type 0 where
  pub opcode : h.opcode < 2 ^ 32
  pub unique : h.unique < 2 ^ 64
  pub node : h.node < 2 ^ 64
  pub uid : h.uid < 2 ^ 32
  pub gid : h.gid < 2 ^ 32
  pub pid : h.pid < 2 ^ 32
  pub units : h.units < 2 ^ 16
  pub counted : length extensions ≡ 8 * h.units
  pub size : HEADER_SIZE + length body + length extensions < 2 ^ 32

abbrev pub header_bytes : Header → ℕ → List ℕ
header_bytes h size =
    bytes_of_u32s (size ∷ h.opcode ∷ [])
    ++ (bytes_of_u64s (h.unique ∷ h.node ∷ []) ++ (bytes_of_u32s (h.uid ∷ h.gid ∷ h.pid ∷ []) ++ bytes_of_u16s (h.units ∷ 0 ∷ [])))

unfoldable pub request_bytes : Header → List ℕ → List ℕ → List ℕ
request_bytes h body extensions = header_bytes h (HEADER_SIZE + length body + length extensions) ++ (body ++ extensions)

abbrev pub request_of_parts : Header → Option Operation → Result Request RequestFault
request_of_parts h None = Err (Malformed h.unique)
request_of_parts h (Some operation) = Ok (record {
  unique = h.unique;
  node = h.node;
  uid = h.uid;
  gid = h.gid;
  pid = h.pid;
  operation = operation;
})

abbrev pub RequestsAreRead : Type 0
RequestsAreRead = (h : Header) (body extensions : List ℕ) → FitsHeader h body extensions
    → request_of (request_bytes h body extensions) ≡ request_of_parts h (operation_of h.opcode body)
