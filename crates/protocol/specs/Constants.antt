-- Document 01's sizes, limits and abort codes, each named once.
use Rattle.std.specs.Prelude.{ℕ, ◌+◌, ◌*◌, ◌-◌}
use Rattle.protocol.specs.declared.AbortCode.{AbortCode}
use Rattle.protocol.specs.declared.AbortCode.TheVariants as A

-- "cut into pieces of 1,452", "each record's own 8,192 bytes", "a lent row of eight connection records"
unfoldable pub PIECE : ℕ
PIECE = 1452

unfoldable pub SHARE : ℕ
SHARE = 8192

unfoldable pub RECORDS : ℕ
RECORDS = 8

-- "The area is 65,536 bytes: each record's own 8,192 bytes"
unfoldable pub AREA : ℕ
unfolding RECORDS SHARE
AREA = RECORDS * SHARE

-- "answer buffer under 1,468": a sequence header, an Initiate's header and a piece
unfoldable pub ANSWER_MIN : ℕ
unfolding PIECE
ANSWER_MIN = 4 + 12 + PIECE

-- "request above 1,500"
unfoldable pub REQUEST_MAX : ℕ
REQUEST_MAX = 1500

-- "the larger of total and 1,480": what an Initiate write of the longest request carries
unfoldable pub FIRST_MAX : ℕ
unfolding REQUEST_MAX
FIRST_MAX = REQUEST_MAX - 4 - 12 - 4

-- "clock above 2^63 − 1"
unfoldable pub CLOCK_MAX : ℕ
CLOCK_MAX = 0x7FFFFFFFFFFFFFFF

-- an offset is a u32; no accepted request comes near its end
unfoldable pub OFFSET_MAX : ℕ
OFFSET_MAX = 0xFFFFFFFF

-- "capacity u16 (1 to 8,192)", "image at most 65,536 bytes"
unfoldable pub CAPACITY_MAX : ℕ
CAPACITY_MAX = 8192

unfoldable pub IMAGE_MAX : ℕ
IMAGE_MAX = 65536

-- "Timeout is 1300 hex/0 in milliseconds; OD_IDX_SDO_RETRIES is taken as 1302 hex, sub 0. … otherwise 15,000 and 2."
unfoldable pub TIMEOUT_INDEX : ℕ
TIMEOUT_INDEX = 0x1300

unfoldable pub RETRIES_INDEX : ℕ
RETRIES_INDEX = 0x1302

unfoldable pub DEFAULT_TIMEOUT : ℕ
DEFAULT_TIMEOUT = 15000

unfoldable pub DEFAULT_RETRIES : ℕ
DEFAULT_RETRIES = 2

-- "Abort codes here are hexadecimal."
abbrev pub TIMED_OUT : ℕ
TIMED_OUT = 0x05040000

abbrev pub INVALID_COMMAND : ℕ
INVALID_COMMAND = 0x05040001

abbrev pub INVALID_SEQUENCE : ℕ
INVALID_SEQUENCE = 0x05040003

abbrev pub OUT_OF_MEMORY : ℕ
OUT_OF_MEMORY = 0x05040005

abbrev pub READ_ONLY : ℕ
READ_ONLY = 0x06010002

abbrev pub NO_OBJECT : ℕ
NO_OBJECT = 0x06020000

abbrev pub LENGTH_MISFIT : ℕ
LENGTH_MISFIT = 0x06070010

abbrev pub LENGTH_TOO_LOW : ℕ
LENGTH_TOO_LOW = 0x06070013

abbrev pub NO_SUB_INDEX : ℕ
NO_SUB_INDEX = 0x06090011

abbrev pub GENERAL_ERROR : ℕ
GENERAL_ERROR = 0x08000000

-- the numbers of the code's abort codes
abbrev pub abort_number : AbortCode → ℕ
abort_number A.TimedOut = TIMED_OUT
abort_number A.InvalidCommand = INVALID_COMMAND
abort_number A.InvalidSequence = INVALID_SEQUENCE
abort_number A.OutOfMemory = OUT_OF_MEMORY
abort_number A.ReadOnly = READ_ONLY
abort_number A.NoObject = NO_OBJECT
abort_number A.LengthMisfit = LENGTH_MISFIT
abort_number A.LengthTooLow = LENGTH_TOO_LOW
abort_number A.NoSubIndex = NO_SUB_INDEX
abort_number A.GeneralError = GENERAL_ERROR
