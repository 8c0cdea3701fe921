pub mod FilesOf
