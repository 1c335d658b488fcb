-- The rows of calls by one path.
use Rattle.std.specs.Prelude.{◌≡◌, ℕ, List, [], ◌∷◌, Option, Ok}
use Rattle.std.proofs.Common.{refl, sym, ap, ◌∙◌}
use Rattle.posix_acl.specs.declared.entry.Perms.{Perms}
use Rattle.posix_acl.specs.AccessList.{AccessList}
use Rattle.fs_model.specs.declared.call.AclType.{AclType}
use Rattle.fs_model.specs.declared.call.Call.TheVariants.{Stat, Lstat, Access, GetAcl, SetAcl, Truncate, Chmod, Chown}
use Rattle.fs_model.specs.declared.walk.Form.TheVariants.{Follow, NoFollow}
use Rattle.fs_model.specs.Demands.{first_of}
use Rattle.fs_model.specs.Rows.{row_of}
use Rattle.fs_model.specs.Scenes.{check_of_mode}
use Rattle.fs_model.specs.AttributeCalls.{stat_row, lstat_row, access_row, get_acl_row, set_acl_row, truncate_row, chmod_row, chown_row, stat_demands, stat_effect, access_demands, access_effect, get_acl_effect, set_acl_arguments, set_acl_demands, set_acl_effect, truncate_demands, truncate_effect, chmod_demands, chmod_effect, chown_demands, chown_effect}
use Rattle.call_parts.specs.Telling.{Checked, checked}
use Rattle.call_parts.specs.Reaching.{WalksPath}
use Rattle.std.specs.Prelude.{true, false}
use Rattle.call_parts.specs.Callers.{Who}
use Rattle.call_parts.proofs.Starts.{may_make}
use Rattle.call_parts.proofs.Calling.{or_else-none}

module _ (path : List ℕ) where
  stat_is : row_of (Stat path) ≡ stat_row path
  unfolding row_of
  stat_is = refl

  pub stat_by_path : {who : Who} → WalksPath who (Stat path) (Ok tt) true Follow path stat_demands stat_effect
  stat_by_path {who} = record { arguments = []; row = stat_is; are_checked = refl; asks = refl; opens = refl; may = may_make who _ refl refl }

  lstat_is : row_of (Lstat path) ≡ lstat_row path
  unfolding row_of
  lstat_is = refl

  pub lstat_by_path : {who : Who} → WalksPath who (Lstat path) (Ok tt) true NoFollow path stat_demands stat_effect
  lstat_by_path {who} = record { arguments = []; row = lstat_is; are_checked = refl; asks = refl; opens = refl; may = may_make who _ refl refl }

  access_is : (want : Perms) → row_of (Access path want) ≡ access_row path want
  unfolding row_of
  access_is want = refl

  pub access_by_path : {who : Who} → (want : Perms) → WalksPath who (Access path want) (Ok tt) false Follow path (access_demands want) (access_effect want)
  access_by_path {who} want = record { arguments = []; row = access_is want; are_checked = refl; asks = refl; opens = refl; may = may_make who _ refl refl }

  get_acl_is : (which : AclType) → row_of (GetAcl path which) ≡ get_acl_row path which
  unfolding row_of
  get_acl_is which = refl

  pub get_acl_by_path : {who : Who} → (which : AclType) → WalksPath who (GetAcl path which) (Ok tt) false Follow path stat_demands (get_acl_effect which)
  get_acl_by_path {who} which = record { arguments = []; row = get_acl_is which; are_checked = refl; asks = refl; opens = refl; may = may_make who _ refl refl }

  truncate_is : (size : ℕ) → row_of (Truncate path size) ≡ truncate_row path size
  unfolding row_of
  truncate_is size = refl

  pub truncate_by_path : {who : Who} → (size : ℕ) → WalksPath who (Truncate path size) (Ok tt) false Follow path (truncate_demands size) (truncate_effect size)
  truncate_by_path {who} size = record { arguments = []; row = truncate_is size; are_checked = refl; asks = refl; opens = refl; may = may_make who _ refl refl }

  chown_is : (owner group : Option ℕ) → row_of (Chown path owner group) ≡ chown_row path owner group
  unfolding row_of
  chown_is owner group = refl

  pub chown_by_path : {who : Who} → (owner group : Option ℕ) → WalksPath who (Chown path owner group) (Ok tt) true Follow path (chown_demands owner group) (chown_effect owner group)
  chown_by_path {who} owner group = record { arguments = []; row = chown_is owner group; are_checked = refl; asks = refl; opens = refl; may = may_make who _ refl refl }

  chmod_is : (mode : ℕ) → row_of (Chmod path mode) ≡ chmod_row path mode
  unfolding row_of
  chmod_is mode = refl

  -- the mode is checked
  pub chmod_by_path : {who : Who} → (mode : ℕ) (checks : Checked) → checks ≡ checked (check_of_mode mode) → WalksPath who (Chmod path mode) checks false Follow path chmod_demands (chmod_effect mode)
  chmod_by_path {who} mode checks are = record {
    arguments = check_of_mode mode ∷ [];
    row = chmod_is mode;
    are_checked = are ∙ ap checked (sym (or_else-none (check_of_mode mode)));
    asks = refl;
    opens = refl;
    may = may_make who _ refl refl;
  }

  set_acl_is : (which : AclType) (acl : Option AccessList) → row_of (SetAcl path which acl) ≡ set_acl_row path which acl
  unfolding row_of
  set_acl_is which acl = refl

  -- no access ACL is removed
  pub set_acl_by_path : {who : Who} → (which : AclType) (acl : Option AccessList) (checks : Checked) → checks ≡ checked (first_of (set_acl_arguments which acl))
      → WalksPath who (SetAcl path which acl) checks false Follow path (set_acl_demands which acl) (set_acl_effect which acl)
  set_acl_by_path {who} which acl checks are = record { arguments = set_acl_arguments which acl; row = set_acl_is which acl; are_checked = are; asks = refl; opens = refl; may = may_make who _ refl refl }
