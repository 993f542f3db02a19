mod Led
