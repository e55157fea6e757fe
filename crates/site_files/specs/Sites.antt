-- The document: the site that it states, or its first fault. The lines of a `do` are the sections in
-- their order: word, kind, default.
use Rattle.std.specs.Prelude.{ℕ, List, [], ◌∷◌, length, map, Result, Ok}
use Rattle.serde_json.specs.Data.{Data}
use Rattle.release_catalogue.specs.declared.word.Word.TheVariants as words
use Rattle.release_catalogue.specs.declared.spot.Fault.{Fault}
use Rattle.release_catalogue.specs.Reading.{◌>>=◌, optional, the}
use Rattle.release_catalogue.specs.Kinds.{number_at, object_at}
use Rattle.release_catalogue.specs.Components.{components_at}
use Rattle.site_types.specs.declared.site.Site.{Site}
use Rattle.site_scripts.specs.Boots.{boots_at}
use Rattle.site_scripts.specs.Clients.{clients_at}
use Rattle.site_scripts.specs.Places.{spot_in, whole_spot}
use Rattle.remote_set.specs.Merged.{merged}
use Rattle.site_remotes.specs.Remotes.{local, remotes_at}
use Rattle.site_remotes.specs.Told.{site_remotes}
use Rattle.site_files.specs.declared.document.Setting.{Setting}
use Rattle.site_files.specs.declared.document.Course.{Course}
use Rattle.site_files.specs.Boards.{boards_at, ports_of}
use Rattle.site_files.specs.Machines.{machine_at}
use Rattle.site_files.specs.Quirks.{quirks_at}
use Rattle.site_files.specs.Texts.{json_at}

-- The machine, the quirks and the remotes: the section `components` is the first of those.
unfoldable pub setting_at : Data → Result Setting Fault
setting_at d = do
  here ← object_at whole_spot d
  form ← the (spot_in words.Format words.Format) words.Format (number_at 1 1) d
  machine ← the whole_spot words.Machine machine_at d
  quirks ← optional whole_spot words.Quirks quirks_at [] d
  catalogue ← the whole_spot words.Components (λ _. components_at) d
  remotes ← optional whole_spot words.Remotes (remotes_at (local catalogue)) (local catalogue ∷ []) d
  Ok (record { machine = machine; quirks = quirks; remotes = remotes })

-- The boards, the clients and the boots.
unfoldable pub course_at : Data → Result Course Fault
course_at d = do
  boards ← the whole_spot words.Boards boards_at d
  clients ← the whole_spot words.Clients clients_at d
  boots ← the whole_spot words.Boots (boots_at (ports_of boards) (length clients)) d
  Ok (record {
    boards = map (λ placed. placed.board) boards;
    features = clients;
    boots = map (λ boot. boot.plan) boots;
    scripts = map (λ boot. boot.scripts) boots;
  })

-- The site of its parts. Its catalogue is that of the remotes, merged.
abbrev pub site_in : Setting → Course → Site
site_in setting course = record {
  machine = setting.machine.facts;
  pool = setting.machine.pool;
  quirks = setting.quirks;
  catalogue = merged setting.remotes;
  remotes = site_remotes setting.remotes;
  boards = course.boards;
  features = course.features;
  boots = course.boots;
  scripts = course.scripts;
}

-- The site that a value states.
unfoldable pub site_at : Data → Result Site Fault
site_at d = do
  setting ← setting_at d
  course ← course_at d
  Ok (site_in setting course)

-- The site that some bytes state.
abbrev pub site_of : List ℕ → Result Site Fault
site_of bytes = json_at bytes >>= site_at
