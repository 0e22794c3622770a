-- The keys of card files, and what stands after each.
use Rattle.std.specs.Prelude.{ℕ, List, Option, None, Some, codes, if◌then◌else◌}
use Rattle.std.specs.Str.{bytes_eq}
use Rattle.card_check.specs.declared.key.Key.{Key}
use Rattle.card_check.specs.declared.key.Key.TheVariants.{Busy, Cid, Csd, Early, Kind, Length, Ocr, Ready, Sectors}
use Rattle.card_check.specs.declared.key.Key.TheVariants.{Cmd8, Ext, ExtChanges, Fault, HighSpeed, LateStatus, Locked, LongBusy, LongReady}
use Rattle.card_check.specs.declared.key.Key.TheVariants.{GoesOn, LongSlowStatus, R6App, Rca, Scr, SlowStatus, Stop}

-- the key of a name that is none of the others
unfoldable pub further_key_of : List ℕ → Option Key
further_key_of name =
    if bytes_eq name (codes "late-status") then Some LateStatus
    else if bytes_eq name (codes "long-ready") then Some LongReady
    else if bytes_eq name (codes "long-busy") then Some LongBusy
    else if bytes_eq name (codes "long-slow-status") then Some LongSlowStatus
    else if bytes_eq name (codes "goes-on") then Some GoesOn
    else if bytes_eq name (codes "r6-app") then Some R6App
    else if bytes_eq name (codes "ext-changes") then Some ExtChanges
    else None

-- the key of a name
unfoldable pub key_of : List ℕ → Option Key
key_of name =
    if bytes_eq name (codes "kind") then Some Kind
    else if bytes_eq name (codes "ocr") then Some Ocr
    else if bytes_eq name (codes "cid") then Some Cid
    else if bytes_eq name (codes "csd") then Some Csd
    else if bytes_eq name (codes "sectors") then Some Sectors
    else if bytes_eq name (codes "ready") then Some Ready
    else if bytes_eq name (codes "busy") then Some Busy
    else if bytes_eq name (codes "early") then Some Early
    else if bytes_eq name (codes "length") then Some Length
    else if bytes_eq name (codes "stop") then Some Stop
    else if bytes_eq name (codes "slow-status") then Some SlowStatus
    else if bytes_eq name (codes "locked") then Some Locked
    else if bytes_eq name (codes "fault") then Some Fault
    else if bytes_eq name (codes "scr") then Some Scr
    else if bytes_eq name (codes "rca") then Some Rca
    else if bytes_eq name (codes "cmd8") then Some Cmd8
    else if bytes_eq name (codes "highspeed") then Some HighSpeed
    else if bytes_eq name (codes "ext") then Some Ext
    else further_key_of name

-- what stands after a key
abbrev pub expected_words : Key → List ℕ
expected_words Kind = codes "kind is sd or mmc"
expected_words Ocr = codes "ocr is 8 hexadecimal digits"
expected_words Cid = codes "cid is 32 hexadecimal digits"
expected_words Csd = codes "csd is 32 hexadecimal digits"
expected_words Sectors = codes "sectors is a number, of sectors of 512 bytes"
expected_words Ready = codes "ready is a number from 0 to 8"
expected_words Busy = codes "busy is a number from 0 to 8"
expected_words Early = codes "early is a number from 0 to 3"
expected_words Length = codes "length is kept or named"
expected_words Stop = codes "stop is busy or ready"
expected_words SlowStatus = codes "slow-status is a number from 0 to 8"
expected_words LateStatus = codes "late-status is a number from 0 to 8"
expected_words LongReady = codes "long-ready is a number from 0 to 15"
expected_words LongBusy = codes "long-busy is a number from 0 to 15"
expected_words LongSlowStatus = codes "long-slow-status is a number from 0 to 15"
expected_words GoesOn = codes "goes-on is yes or no"
expected_words Locked = codes "locked is yes or no"
expected_words Fault = codes "fault is an exchange and one of lose-command, flip-command A [B], lose-reply, flip-reply A [B], fail-switch, fail-switch-late, lose-failed-switch, find-protection, left-over crc|illegal, show-error 8 digits, find-error 8 digits, bad-block, no-block, read-error, lose-block, reject, reject-busy, reject-all, lose-status old|new, fail old|new [8 digits], fail-early old|new [8 digits], fail-unseen old|new [8 digits], busy, brownout old|new"
expected_words Scr = codes "scr is 16 hexadecimal digits"
expected_words Rca = codes "rca is 4 hexadecimal digits, or changes"
expected_words Cmd8 = codes "cmd8 is yes or no"
expected_words HighSpeed = codes "highspeed is yes, no, refused-15 or refused-0"
expected_words R6App = codes "r6-app is yes or no"
expected_words ExtChanges = codes "ext-changes is yes or no"
expected_words Ext = codes "ext is a place from 0 to 511, and a byte of two hexadecimal digits"
