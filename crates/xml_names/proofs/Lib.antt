mod Fixed
mod Indexing
mod Numbered
mod Places
mod Views
