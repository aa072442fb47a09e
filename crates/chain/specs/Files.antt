-- A file's last page, as its record has it. Assumes nothing: these are definitions.
use Rattle.state.specs.declared.types.FileRecord.{FileRecord}
use Rattle.chain.specs.declared.PagePointer.{PagePointer}

abbrev pub last_of : FileRecord → PagePointer
last_of f = record { page_id = f.last_page; header = f.header }
