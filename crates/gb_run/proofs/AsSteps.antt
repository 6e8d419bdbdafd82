-- Files that are put, as steps.
use Rattle.std.specs.Prelude.{◌≡◌, ◌++◌, ◌||◌, List, [], ◌∷◌, Some}
use Rattle.std.specs.List.{AllByRecursion, list_any}
use Rattle.std.proofs.Common.{refl, ap, ap₂, ◌∙◌}
use Rattle.gb_folder.specs.Files.{Place, Bytes, Files, is_blocked, with_file}
use Rattle.gb_semantics.specs.Made.{put_over}
use Rattle.gb_semantics.specs.Run.{has_room}
use Rattle.gb_run.specs.Named.{put}
use Rattle.gb_run.specs.Stepping.{HasRoom}
use Rattle.gb_run.specs.Steps.{Step, after_steps}
use Rattle.gb_run.proofs.Room.{fewer_room}
use Rattle.gb_run.proofs.Writer.{heads, tails}

-- what they leave
pub after_put : (old : Files) (files : List (Place × Bytes)) → after_steps old (put files) ≡ put_over old files
after_put old [] = refl
after_put old (file ∷ files) = after_put (with_file old file.0 file.1) files

-- if each had room as it was put, all have room
pub room_of : (old : Files) (files : List (Place × Bytes)) → HasRoom old (put files) → has_room old files
room_of old [] room = refl
room_of old (file ∷ files) room =
    ap (λ b. b || list_any (λ (f : Place × Bytes). is_blocked old f.0) files) room.0
    ∙ fewer_room old (file ∷ []) files (room_of (with_file old file.0 file.1) files room.1)

-- what holds of their places holds of those of the steps
pub all_put : (P : Place → Type 0) (files : List (Place × Bytes)) → AllByRecursion (λ (f : Place × Bytes). P f.0) files → AllByRecursion (λ (s : Step). P s.0) (put files)
all_put P [] all = tt
all_put P (file ∷ files) all = (all.0, all_put P files all.1)

-- some first steps and the others are some first files and the others
pub record IsParted (files : List (Place × Bytes)) (prefix following : List Step) : Type 0 where
  pub first : List (Place × Bytes)
  pub later : List (Place × Bytes)
  pub all : files ≡ first ++ later
  pub prefix_is : prefix ≡ put first
  pub after_is : following ≡ put later

pub parted : (files : List (Place × Bytes)) (prefix following : List Step) → prefix ++ following ≡ put files → IsParted files prefix following
parted files [] following is = record { first = []; later = files; all = refl; prefix_is = refl; after_is = is }
parted [] (step ∷ prefix) following is = absurd (let e = is in (cc))
parted (file ∷ files) (step ∷ prefix) following is =
    let rest = parted files prefix following (tails step (file.0, Some file.1) (prefix ++ following) (put files) is) in
    record {
      first = file ∷ rest.first;
      later = rest.later;
      all = ap (λ fs. file ∷ fs) rest.all;
      prefix_is = ap₂ (λ (s : Step) (ss : List Step). s ∷ ss) (heads step (file.0, Some file.1) (prefix ++ following) (put files) is) rest.prefix_is;
      after_is = rest.after_is;
    }
