-- An answer returned in a part of a sequence of calls was returned in the whole sequence.
use Rattle.gb_folder.specs.Answers.{IsOnWay, WereRead}
use Rattle.gb_folder.specs.Calls.{Requests, Call, no_change}
use Rattle.gb_folder.specs.Device.{IsCalled}
use Rattle.gb_folder.specs.Files.{Bytes, Place}
use Rattle.gb_folder.proofs.Asked.{requests_nothing, requests_then}
use Rattle.gb_folder.specs.Calls.{Device}

module _ {F : Type 0} {device : Device F} where
  -- one call, as it was made
  pub on_way_here : {call : Call} {old new : F} → IsCalled device old call new → IsOnWay device call old new
  on_way_here {old = old} {new = new} is =
      record { before = old; after = new; first = requests_nothing old; is = is; rest = requests_nothing new }

  pub on_longer_way : {call : Call} {first old new end : F} → Requests device no_change first old
      → Requests device no_change new end → IsOnWay device call old new
      → IsOnWay device call first end
  on_longer_way before following way = record {
    before = way.before;
    after = way.after;
    first = requests_then before way.first;
    is = way.is;
    rest = requests_then way.rest following;
  }

  pub read_longer : {first old new end : F} → Requests device no_change first old → Requests device no_change new end
      → (place : Place) (bytes : Bytes) → WereRead device old new place bytes
      → WereRead device first end place bytes
  read_longer before following place bytes read = on_longer_way before following read
