-- Files that calls returned are those of known contents.
use Rattle.std.specs.Prelude.{◌≡◌, false, nat_lt, [], List, Option, length, unwrap_or, IsSome}
use Rattle.std.proofs.Common.{refl, sym, ap, subst, ◌∙◌, ◌∷◌}
use Rattle.std.proofs.lemmas.Bool.{le-ltb}
use Rattle.sha2.specs.Sha256.{sha256}
use Rattle.gb_folder.specs.Answers.{WereRead}
use Rattle.gb_folder.specs.Calls.{Device, OnlyReads}
use Rattle.gb_folder.specs.Files.{Bytes, Contents, Place, file_at}
use Rattle.gb_folder.specs.Limits.{max_file}
use Rattle.gb_folder.proofs.Known.{read_there}
use Rattle.gb_tree.specs.Answered.{WasObserved}
use Rattle.gb_tree.specs.Reading.{IsObservedIn, KeepsOnly}
use Rattle.gb_tree.specs.DigestCache.{AreCached, AreCachedIn, CachedFile}
use Rattle.gb_tree.specs.Tree.{bytes_at, is_large}
use Rattle.gb_tree.specs.declared.kept.ScannedFile.{ScannedFile}

module _ {F : Type 0} {device : Device F} {old new : F} (known : device.faithful new) (place : Place) (bytes : Bytes) (were : WereRead device old new place bytes) where
  bytes_there : bytes_at (device.contents new).files place ≡ bytes
  bytes_there = ap (λ (o : Option Bytes). unwrap_or o []) (read_there known place bytes were).0

  exists_there : IsSome (file_at (device.contents new).files place)
  exists_there = subst (λ (o : Option Bytes). IsSome o) (sym (read_there known place bytes were).0) refl

  small_there : is_large (device.contents new).files place ≡ false
  small_there = ap (λ (b : Bytes). nat_lt max_file (length b)) bytes_there ∙ le-ltb max_file (length bytes) (read_there known place bytes were).1

module _ {F : Type 0} {device : Device F} {old new : F} (reads : OnlyReads device old new) (known : device.faithful new) where
  same : device.contents new ≡ device.contents old
  same = reads.same known

  module _ (place : Place) (bytes : Bytes) (were : WereRead device old new place bytes) where
    -- the bytes of the file
    pub read_bytes : bytes ≡ bytes_at (device.contents old).files place
    read_bytes = sym (bytes_there known place bytes were) ∙ ap (λ (c : Contents). bytes_at c.files place) same

    -- it is not too large
    pub read_small : is_large (device.contents old).files place ≡ false
    read_small = sym (ap (λ (c : Contents). is_large c.files place) same) ∙ small_there known place bytes were

    read_exists : IsSome (file_at (device.contents old).files place)
    read_exists = subst (λ (c : Contents). IsSome (file_at c.files place)) same (exists_there known place bytes were)

  -- a file as it was read
  pub observed_known : (file : ScannedFile) → WasObserved device old new file → IsObservedIn (device.contents old).files file
  observed_known file was = record {
    exists = read_exists file.place was.0 was.1;
    small = read_small file.place was.0 was.1;
    digested = was.2 ∙ ap sha256 (read_bytes file.place was.0 was.1);
    whole = subst (λ (b : Bytes). KeepsOnly b file.kept) (read_bytes file.place was.0 was.1) was.3;
  }

-- what was seen since a state, without a change, is what known contents have
pub seen_known : {F : Type 0} (device : Device F) (since now : F) → device.faithful now → (seen : List CachedFile) → AreCached device since now seen → AreCachedIn (device.contents now).files seen
seen_known device since now known [] were = tt
seen_known device since now known (file ∷ seen) were = (
  record {
    exists = exists_there known file.0 were.0.0 were.0.1;
    small = small_there known file.0 were.0.0 were.0.1;
    digested = were.0.2 ∙ ap sha256 (sym (bytes_there known file.0 were.0.0 were.0.1));
  },
  seen_known device since now known seen were.1,
)
