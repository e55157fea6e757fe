-- What is read of a document is sound.
use Rattle.std.proofs.Common.{◌≡◌, ℕ, ◌≤◌, List, length, Result, Ok, subst}
use Rattle.std.specs.Prelude.{All}
use Rattle.std.proofs.lemmas.List.Elements.{All-map, All-weaker}
use Rattle.emulated_boards.specs.Plans.{IsPlan}
use Rattle.serde_json.specs.Data.{Data}
use Rattle.release_catalogue.specs.declared.word.Word.TheVariants as words
use Rattle.release_catalogue.specs.declared.spot.Fault.{Fault}
use Rattle.release_catalogue.specs.Reading.{field_of, needed, the}
use Rattle.site_types.specs.declared.site.Site.{Site}
use Rattle.site_types.specs.declared.site.SiteBoard.{SiteBoard}
use Rattle.site_types.specs.Limits.{CanBeSettled}
use Rattle.site_scripts.specs.Boots.{boots_at}
use Rattle.site_scripts.specs.Clients.{clients_at}
use Rattle.site_scripts.specs.Places.{whole_spot}
use Rattle.site_files.specs.declared.board.Placed.{Placed}
use Rattle.site_files.specs.declared.document.Course.{Course}
use Rattle.site_files.specs.Boards.{boards_at, ports_of}
use Rattle.site_files.specs.Sites.{course_at, setting_at, site_at, site_of}
use Rattle.site_files.specs.Texts.{json_at}
use Rattle.site_files.proofs.GoodReadings.{Good, good_after, good_then}
use Rattle.site_files.proofs.SoundBoards.{IsSound, boards_sound}

course_sound : (d : Data) → Good (λ (course : Course). All IsSound course.boards) (course_at d)
unfolding course_at
course_sound d =
    let Sound : Course → Type 0 = λ course. All IsSound course.boards in
    good_then Sound (λ (boards : List Placed). All (λ (placed : Placed). IsSound placed.board) boards) (the whole_spot words.Boards boards_at d) _
    (good_after (λ (boards : List Placed). All (λ (placed : Placed). IsSound placed.board) boards) (needed whole_spot words.Boards d) (boards_at (field_of whole_spot words.Boards)) (λ (found : Data). boards_sound (field_of whole_spot words.Boards) found))
    (λ (boards : List Placed) sound.
    good_after Sound (the whole_spot words.Clients clients_at d) _ (λ clients.
    good_after Sound (the whole_spot words.Boots (boots_at (ports_of boards) (length clients)) d) _ (λ boots. All-map IsSound (λ (placed : Placed). placed.board) boards sound)))

site_sound : (d : Data) → Good (λ (site : Site). All IsSound site.boards) (site_at d)
unfolding site_at
site_sound d =
    let Sound : Site → Type 0 = λ site. All IsSound site.boards in
    good_after Sound (setting_at d) _ (λ setting.
    good_then Sound (λ (course : Course). All IsSound course.boards) (course_at d) _ (course_sound d) (λ (course : Course) sound. sound))

sound_of : (bytes : List ℕ) (site : Site) → site_of bytes ≡ Ok site → All IsSound site.boards
sound_of bytes site e =
    let Sound : Site → Type 0 = λ site. All IsSound site.boards in
    let each : Good Sound (site_of bytes) = good_after Sound (json_at bytes) site_at (λ (d : Data). site_sound d) in
    subst (λ (reading : Result Site Fault). Good Sound reading) e each

-- A campaign can be made of a site that was read.
pub can_be_settled : (bytes : List ℕ) (site : Site) → site_of bytes ≡ Ok site → CanBeSettled site.boards
can_be_settled bytes site e = record {
  priorities = All-weaker IsSound (λ (board : SiteBoard). board.sheet.priority ≤ 1000) (λ board sound. sound.low) site.boards (sound_of bytes site e);
  plans = All-weaker IsSound (λ (board : SiteBoard). IsPlan board.faults) (λ board sound. sound.rises) site.boards (sound_of bytes site e);
}
