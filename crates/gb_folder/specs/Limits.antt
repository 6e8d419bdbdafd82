-- The maximum size of a file, and the maximum number of files in one tree.
use Rattle.std.specs.Prelude.{ℕ}
use Rattle.gb_folder.specs.declared.limits.TheConstants.{MAX_FILE, MAX_FILES}

-- the maximum number of bytes of a file
abbrev pub max_file : ℕ
max_file = MAX_FILE

-- the maximum number of files in a tree of files
abbrev pub max_files : ℕ
max_files = MAX_FILES
