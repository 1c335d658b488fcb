-- What is asked of what becomes a current directory.
--     enter_asked        to be there, a directory, and to be searched by the caller
use Rattle.std.specs.Prelude.{List, [], ◌∷◌, not}
use Rattle.fs_cred.specs.declared.errno.Errno.TheVariants.{ENOTDIR}
use Rattle.fs_cred.specs.Credentials.{Credential}
use Rattle.fs_model.specs.declared.walk.Found.{Found}
use Rattle.fs_model.specs.Births.{the_node}
use Rattle.fs_model.specs.Demands.{Demand, refuse, search_on}
use Rattle.fs_model.specs.Nodes.{is_directory}
use Rattle.fs_model.specs.Scenes.{found_ino, must_be_there}
use Rattle.fs_model.specs.Trees.{Tree}

abbrev pub enter_asked : Credential → Tree → Found → List Demand
enter_asked cred t f =
    must_be_there f
    ∷ refuse ENOTDIR (not (is_directory (the_node t (found_ino f)).body))
    ∷ search_on cred t (found_ino f) 1 f.step
    ∷ []
