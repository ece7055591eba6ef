mod Numbers
mod Parsing
mod Reading
mod Telling
